-- Contract between layers: the picture of 16 costs: a cost table at rest. Assumes nothing.
use Rattle.std.specs.Prelude.{List, [], ◌∷◌, ℕ}
use Rattle.theory.specs.Costs.{Cost}
use Rattle.table_words.specs.Picture as P
use Rattle.cost_words.specs.Table.{cost_table}

-- the words are the picture of the costs gs; a table can hold gs; the words are some costs' picture
abbrev pub Pictures : ℕ → List ℕ → List Cost → List ℕ → Type 0
Pictures cap S gs w = P.Pictures cost_table cap S gs w

abbrev pub Proper : ℕ → List ℕ → List Cost → Type 0
Proper cap S gs = P.Proper cost_table cap S gs

abbrev pub IsTable : List ℕ → Type 0
IsTable w = P.IsTable cost_table w

-- w' is w with the cost of place p replaced by g
abbrev pub Becomes : ℕ → Cost → List ℕ → List ℕ → Type 0
Becomes p g w w' = P.Becomes cost_table p (g ∷ []) w w'
