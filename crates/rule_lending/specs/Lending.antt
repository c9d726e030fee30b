-- Contract between layers: what a rule table lends to the part above it: branch words and the rules that they mean, which the part above knows by its laws alone. Assumes nothing.
use Rattle.std.specs.Prelude.{◌≡◌, List, ◌∷◌, ℕ, ◌+◌, ◌≤◌, ◌<◌}
-- shut: a branch word where the features from k on are left, the rule that it means; a phrase number, which one it is; a key of it
pub use Rattle.rule_inside.specs.Branches.{Lent, lent, Number, Says, key_of}
use Rattle.promises.specs.Words.{features}
use Rattle.promises.specs.RuleWords.{rule_of}

-- b is a branch word from some feature on
pub record Lends (w : List ℕ) (b : ℕ) : Type 0 where
  pub from : ℕ
  pub lends : Lent w from b

-- r is the branch word of place p, and means its rule
pub record Roots (w : List ℕ) (p r : ℕ) : Type 0 where
  pub there : Lent w 0 r
  pub means : (s : List ℕ) → lent w 0 r s ≡ rule_of w p s

-- r is the branch of b for value v of feature k
pub record Goes (w : List ℕ) (k b v r : ℕ) : Type 0 where
  pub there : Lent w (k + 1) r
  pub means : (s : List ℕ) → lent w k b (v ∷ s) ≡ lent w (k + 1) r s

-- b, where the features from k on are left, tests no feature below r, and may stand up to there
pub record Tops (w : List ℕ) (k b r : ℕ) : Type 0 where
  pub from : k ≤ r
  pub most : r ≤ features w
  pub there : (j : ℕ) → k ≤ j → j ≤ r → Lent w j b
  pub waits : (j v : ℕ) (s : List ℕ) → k ≤ j → j < r → lent w j b (v ∷ s) ≡ lent w (j + 1) b s

-- how many phrase numbers there are, and the bound of all keys
abbrev pub phrases : ℕ
phrases = 65536

abbrev pub keys : ℕ
keys = 131072
