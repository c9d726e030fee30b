-- Contract between layers: restrict: a feature held at a value; what the walk asks, remembers and gives. Assumes nothing.
use Rattle.std.specs.Prelude.{Option, List, ℕ, ◌+◌, ◌*◌, ◌-◌, ◌≤◌, ◌<◌, length, set}
use Rattle.theory.specs.Diagrams.{value}
use Rattle.theory.specs.Rules.{Rule}
use Rattle.theory.specs.WellFormed.{Mean}
use Rattle.rule_nodes.specs.Nodes.{Holds, Good, Place, Result}
use Rattle.table_notes.specs.Plain.{Roomy, plain}
use Rattle.rule_restrict.specs.Notes.{note, Only}
use Rattle.promises.specs.Words.{capacity, features, size, sizes, count, bound, Zeros}
use Rattle.promises.specs.RuleWords.{decode, rule_node_list as nodes}

-- what the branch b means from feature k on, with feature f held at x
abbrev pub restr : List ℕ → ℕ → ℕ → ℕ → ℕ → Rule
restr w k b f x = λ s. value (nodes w) k (decode b) (set s (f - k) x)

-- feature f of a rule table may be held at x; the far records are 0
pub record Holding (w : List ℕ) (b f x : ℕ) : Type 0 where
  pub holds : Holds w
  pub good : Good w 0 b
  pub known : f < features w
  pub value : x < size w f
  pub room : bound (capacity w) ≤ length w
  pub rest : Zeros w (8192 + 16 * capacity w) (bound (capacity w))

-- ---- the walk, told of the words without its notes
-- the far records hold notes of nodes in use alone, each right: 1 + the branch that means the node with f held at x
pub record Noted (w : List ℕ) (f x : ℕ) : Type 0 where
  pub only : Only w 0 (count w)
  pub right : (i : ℕ) → i < count w → 0 < note w i → Mean (nodes (plain w)) 0 (sizes (plain w)) (decode (note w i - 1)) (restr (plain w) 0 (65536 + i) f x)

-- the walk may be asked
pub record Walks (w : List ℕ) (b f x : ℕ) : Type 0 where
  pub place : Place (plain w) 0 b
  pub known : f < features (plain w)
  pub value : x < size (plain w) f
  pub room : Roomy w
  pub noted : Noted w f x

-- the branch is that of the result, and what is noted is still right
pub record Walked (w w' : List ℕ) (b f x : ℕ) (a : Option ℕ) : Type 0 where
  pub result : Result (plain w) (plain w') 0 (restr (plain w) 0 b f x) a
  pub noted : Noted w' f x
