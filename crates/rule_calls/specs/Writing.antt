-- Contract between layers: a rule written into a place, word for word. Assumes nothing.
use Rattle.std.specs.Prelude.{List, [], ◌∷◌, ℕ}
use Rattle.theory.specs.Rules.{Rule}
use Rattle.settings.specs.Refusals.{Cases}
use Rattle.settings.specs.Refusals.{Outcome}
use Rattle.table_calls.specs.Writing as C
use Rattle.rule_words.specs.Table.{rule_table}

-- a call with the refusals l that writes the rule g into place p makes w into w' and ends as o
abbrev pub Writes : Cases → ℕ → Rule → List ℕ → List ℕ → Outcome → Type 0
Writes l p g w w' o = C.Writes rule_table l p (g ∷ []) w w' o
