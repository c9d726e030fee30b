-- Means of proof: work without bases: what is worked out of nodes alone, or of two nodes and the difference of their bases, serves at every base. Assumes nothing.
use Rattle.std.specs.Prelude.{cond, List, ℕ, ℤ, ◌+ℤ◌, ◌-ℤ◌}
use Rattle.std.specs.Int.Signed.{lt_z}
use Rattle.theory.specs.Diagrams.{Branch, Node, Target, next}
use Rattle.theory.specs.Rules.{Rule, says}
use Rattle.theory.specs.Costs.{Cost, amount, costs}
use Rattle.promises.specs.CostSound.{bare, from}
use Rattle.promises.specs.CostOperations.{joined}

-- its branch at value v; the target itself where it does not test feature k
abbrev pub branch_at : List (Node costs) → ℕ → Target costs → ℕ → Branch costs
branch_at N k t v = next N k (bare t) v

-- add, subtract, scale: of two targets
abbrev pub pair_from : (ℤ → ℤ → ℤ) → List (Node costs) → ℕ → Target costs → Target costs → Cost
pair_from F N k t u = joined F (from N k t) (from N k u)

-- smaller, larger, choose: an operation that may look at the setting, of two costs, ..
abbrev pub joined_at : (List ℕ → ℤ → ℤ → ℤ) → Cost → Cost → Cost
joined_at F f g = λ s. amount (F s (f s).off (g s).off)

-- .. and of two targets where the second has d more on it
abbrev pub apart_from : (List ℕ → ℤ → ℤ → ℤ) → List (Node costs) → ℕ → Target costs → Target costs → ℤ → Cost
apart_from F N k t u d = λ s. amount (F s (from N k t s).off (d +ℤ (from N k u s).off))

-- the difference one value on: d and what the second's branch adds, less what the first's adds
abbrev pub onward : ℤ → ℤ → ℤ → ℤ
onward d a b = (d +ℤ b) -ℤ a

-- less: the same as a rule
abbrev pub below_from : List (Node costs) → ℕ → Target costs → Target costs → ℤ → Rule
below_from N k t u d = λ s. says (cond (lt_z (from N k t s).off (d +ℤ (from N k u s).off)) 1 0)
