-- The range of a cost: from −1,000,000,000 to 1,000,000,000 at every setting. Assumes nothing.
use Rattle.std.specs.Prelude.{List, ℕ}
use Rattle.theory.specs.Settings.{Valid}
use Rattle.theory.specs.Costs.{Cost}
use Rattle.promises.specs.Integers.{Fit}

-- within ±B at every setting
pub record Within (B : ℕ) (S : List ℕ) (f : Cost) : Type 0 where
  pub fits : (s : List ℕ) → Valid S s → Fit B (f s).off

-- the range of costs, and twice as much for what branches add
abbrev pub cost_most : ℕ
cost_most = 1000000000

abbrev pub add_most : ℕ
add_most = 2000000000

-- RANGE: the cost leaves its range at some setting
pub record LeavesRange (S : List ℕ) (f : Cost) : Type 0 where
  pub setting : List ℕ
  pub valid : Valid S setting
  pub out : Fit cost_most (f setting).off → ⊥
