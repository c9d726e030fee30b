-- Contract between layers: a cost written into a place, word for word. Assumes nothing.
use Rattle.std.specs.Prelude.{List, [], ◌∷◌, ℕ}
use Rattle.theory.specs.Costs.{Cost}
use Rattle.settings.specs.Refusals.{Cases}
use Rattle.settings.specs.Refusals.{Outcome}
use Rattle.table_calls.specs.Writing as C
use Rattle.cost_words.specs.Table.{cost_table}

-- a call with the refusals l that writes the cost g into place p makes w into w' and ends as o
abbrev pub Writes : Cases → ℕ → Cost → List ℕ → List ℕ → Outcome → Type 0
Writes l p g w w' o = C.Writes cost_table l p (g ∷ []) w w' o
