-- Contract between layers: what a cost table is where place p may be changed. Assumes nothing.
use Rattle.std.specs.Prelude.{List, ℕ, ◌<◌}
use Rattle.cost_words.specs.Table.{cost_table}
use Rattle.table_sweep.specs.Tidy as T
use Rattle.promises.specs.Range.{Within, cost_most}
use Rattle.promises.specs.Words.{sizes}
use Rattle.promises.specs.CostWords.{cost_of}

-- as in every kind, and each place's cost lies in its range
pub record Untidy (p : ℕ) (w : List ℕ) : Type 0 where
  pub untidy : T.Untidy cost_table p w
  pub range : (q : ℕ) → q < 16 → Within cost_most (sizes w) (cost_of w q)
