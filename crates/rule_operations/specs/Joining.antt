-- Contract between layers: the operands of CASE. Assumes nothing.
use Rattle.std.specs.Prelude.{◌≡◌, List, ◌⊎◌, ℕ, ◌+◌, ◌<◌, length, get_or}
use Rattle.theory.specs.Counted.{Given}
use Rattle.promises.specs.Words.{sizes}
use Rattle.promises.specs.RuleWords.{rule_root, rule_of}
use Rattle.table_words.specs.Words.{listed}

-- x is the root word of the place p; or the selector q gives the index j at no setting, and x is 0
abbrev pub Handed : List ℕ → ℕ → ℕ → ℕ → ℕ → Type 0
Handed w q j p x = (x ≡ rule_root w p) ⊎ ((Given (sizes w) (rule_of w q) j → ⊥) × (x ≡ 0))

-- r are the root word of the selector q and what is handed on for the branches l, in a row
pub record Lined (w : List ℕ) (q : ℕ) (l r : List ℕ) : Type 0 where
  pub first : listed r 0 ≡ rule_root w q
  pub others : (j : ℕ) → j < length l → Handed w q j (get_or l j 0) (listed r (1 + j))
