-- Contract between layers: NO ROOM, and the end of every call that builds. Assumes nothing.
use Rattle.std.specs.Prelude.{Option, None, Some, List, [], ◌∷◌, ℕ, ◌≤◌, ◌<◌}
use Rattle.theory.specs.Rules.{Rule}
use Rattle.theory.specs.WellFormed.{Ok}
use Rattle.settings.specs.Refusals.{Outcome}
use Rattle.table_records.specs.Laid.{Laid}
use Rattle.table_calls.specs.Writing as C
use Rattle.rule_words.specs.Table.{rule_table}
use Rattle.rule_nodes.specs.Nodes.{told}
use Rattle.rule_collect.specs.Tidy.{Untidy}
use Rattle.promises.specs.Words.{count}
use Rattle.promises.specs.RuleWords.{decode, rule_node_list as nodes}

-- NO ROOM: the distinct rests of all places of the table before the call with those of the result exceed its capacity
abbrev pub Exceeds : List ℕ → Rule → Type 0
Exceeds w g = C.Exceeds rule_table w (g ∷ [])

-- the rule g, built and settled into place p: written, whichever way the rule is said
abbrev pub Puts : ℕ → Rule → List ℕ → List ℕ → Outcome → Type 0
Puts p g w w' o = C.Puts rule_table p (g ∷ []) w w' o

-- ---- settling
-- a call that built may settle: there is a branch for place p, or the nodes from n on can be taken away
abbrev pub Asks : ℕ → ℕ → List ℕ → Option ℕ → Type 0
Asks p n w (Some b) = (Untidy p w) × (p < 32) × (Ok (nodes w) 0 (decode b))
Asks p n w None = (Laid w) × (n ≤ count w)

-- the branch's rule stands in place p, or the nodes from n on are taken away
abbrev pub Settled : ℕ → ℕ → List ℕ → List ℕ → Option ℕ → Outcome → Type 0
Settled p n w w' a o = C.Settled rule_table p n w w' (C.alone (told a)) o
