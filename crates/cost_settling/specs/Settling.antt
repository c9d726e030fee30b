-- Contract between layers: NO ROOM, and the end of every call that builds. Assumes nothing.
use Rattle.std.specs.Prelude.{List, [], ◌∷◌, ℕ, ◌≤◌, ◌<◌, Option, Some, None}
use Rattle.theory.specs.Costs.{Cost}
use Rattle.theory.specs.Diagrams.{meaning}
use Rattle.theory.specs.WellFormed.{Ok}
use Rattle.settings.specs.Refusals.{Outcome}
use Rattle.table_records.specs.Laid.{Laid}
use Rattle.table_calls.specs.Writing as C
use Rattle.cost_words.specs.Table.{cost_table}
use Rattle.cost_nodes.specs.Nodes.{told}
use Rattle.cost_words.specs.declared.Arm.{Arm}
use Rattle.cost_collect.specs.Tidy.{Untidy}
use Rattle.promises.specs.Words.{count, sizes}
use Rattle.promises.specs.Range.{Within, cost_most}
use Rattle.promises.specs.CostWords.{cost_branch as branch, cost_node_list as nodes}

-- NO ROOM: the distinct rests of all places of the table before the call with those of the result exceed its capacity
abbrev pub Exceeds : List ℕ → Cost → Type 0
Exceeds w g = C.Exceeds cost_table w (g ∷ [])

-- the cost g, built and settled into place p: written, whichever way the cost is said
abbrev pub Puts : ℕ → Cost → List ℕ → List ℕ → Outcome → Type 0
Puts p g w w' o = C.Puts cost_table p (g ∷ []) w w' o

-- ---- settling
-- a call that built may settle: there is a branch for place p whose cost lies in its range, or the nodes from n on can be taken away
abbrev pub Asks : ℕ → ℕ → List ℕ → Option Arm → Type 0
Asks p n w (Some b) = (Untidy p w) × (p < 16) × (Ok (nodes w) 0 (branch b.to b.adds)) × (Within cost_most (sizes w) (meaning (nodes w) (branch b.to b.adds)))
Asks p n w None = (Laid w) × (n ≤ count w)

-- the branch's cost stands in place p, or the nodes from n on are taken away
abbrev pub Settled : ℕ → ℕ → List ℕ → List ℕ → Option Arm → Outcome → Type 0
Settled p n w w' a o = C.Settled cost_table p n w w' (C.alone (told a)) o
