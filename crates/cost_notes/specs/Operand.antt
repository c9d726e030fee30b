-- Contract between layers: a cost that a walk over a table may be asked about. Assumes nothing.
use Rattle.std.specs.Prelude.{List, ℕ}
use Rattle.theory.specs.Costs.{costs}
use Rattle.theory.specs.Diagrams.{Branch, meaning}
use Rattle.theory.specs.WellFormed.{Ok}
use Rattle.theory_costs.specs.Narrow.{Narrow}
use Rattle.table_notes.specs.Plain.{Resting}
use Rattle.cost_nodes.specs.Nodes.{Holds}
use Rattle.promises.specs.Range.{Within, add_most, cost_most}
use Rattle.promises.specs.Words.{sizes}
use Rattle.promises.specs.CostWords.{cost_node_list as nodes}

-- b is a branch of the table w, which is at rest and whose nodes are narrow, and its cost lies in range
pub record Operand (w : List ℕ) (b : Branch costs) : Type 0 where
  pub holds : Holds w
  pub rest : Resting w
  pub narrow : Narrow add_most (sizes w) (nodes w)
  pub ok : Ok (nodes w) 0 b
  pub within : Within cost_most (sizes w) (meaning (nodes w) b)
