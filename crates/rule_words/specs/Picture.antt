-- Contract between layers: the picture of 32 rules: a rule table at rest. Assumes nothing.
use Rattle.std.specs.Prelude.{List, [], ◌∷◌, ℕ}
use Rattle.theory.specs.Rules.{Rule}
use Rattle.table_words.specs.Picture as P
use Rattle.rule_words.specs.Table.{rule_table}

-- the words are the picture of the rules gs; a table can hold gs; the words are some rules' picture
abbrev pub Pictures : ℕ → List ℕ → List Rule → List ℕ → Type 0
Pictures cap S gs w = P.Pictures rule_table cap S gs w

abbrev pub Proper : ℕ → List ℕ → List Rule → Type 0
Proper cap S gs = P.Proper rule_table cap S gs

abbrev pub IsTable : List ℕ → Type 0
IsTable w = P.IsTable rule_table w

-- w' is w with the rule of place p replaced by g
abbrev pub Becomes : ℕ → Rule → List ℕ → List ℕ → Type 0
Becomes p g w w' = P.Becomes rule_table p (g ∷ []) w w'
