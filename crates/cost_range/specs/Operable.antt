-- Contract between layers: what is asked before the range of a result is told. Assumes nothing.
use Rattle.std.specs.Prelude.{List, ℕ}
use Rattle.theory.specs.Costs.{costs}
use Rattle.theory.specs.Diagrams.{Branch}
use Rattle.cost_notes.specs.Operand.{Operand}
use Rattle.cost_engine.specs.declared.operators.Operator.{Operator}
use Rattle.cost_engine.specs.declared.operators.Operator.TheVariants.{Add, Subtract, Smaller, Larger, Scale}
use Rattle.promises.specs.Integers.{Fit, int}
use Rattle.promises.specs.Range.{cost_most}

-- a factor lies in the range of costs
abbrev pub Factored : Operator → Type 0
Factored Add = Unit {0}
Factored Subtract = Unit {0}
Factored Smaller = Unit {0}
Factored Larger = Unit {0}
Factored (Scale c) = Fit cost_most (int c)

-- two costs of the table, and the factor of scale, in range
pub record Operable (w : List ℕ) (o : Operator) (b c : Branch costs) : Type 0 where
  pub first : Operand w b
  pub second : Operand w c
  pub factor_in : Factored o
