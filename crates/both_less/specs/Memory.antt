-- Contract between layers: what the scratch words remember of less: under a feature + 1, for two targets and their difference, the branch word of the rule. Assumes nothing.
use Rattle.std.specs.Prelude.{Option, None, Some, ◌≡◌, List, ℕ, ◌+◌}
use Rattle.table_words.specs.Words.{listed}
use Rattle.table_memory.specs.Memory.{Remembers}
use Rattle.rule_lending.specs.Building.{Result}
use Rattle.both_less.specs.Less.{less_from}

-- the branch word z is in the rule table v, and is the result for the key's targets of the cost table w with the key's difference, from the key's feature on
pub record Recalled (w v key : List ℕ) (z e : ℕ) : Type 0 where
  pub there : (k : ℕ) → listed key 0 ≡ k + 1 → Result v v k (less_from w k (listed key 1) (listed key 2) (listed key 3)) (Some z)

-- after a call that had room the memory is right for the rule table that it left
abbrev pub Still : {A : Type 0} → List ℕ → List ℕ → List ℕ → Option A → Type 0
Still w v s (Some z) = Remembers 4 (Recalled w v) s
Still w v s None = Unit {0}
