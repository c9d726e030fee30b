-- Contract between layers: what a rule table is where place p may be changed. Assumes nothing.
use Rattle.std.specs.Prelude.{List, ℕ}
use Rattle.rule_words.specs.Table.{rule_table}
use Rattle.table_sweep.specs.Tidy as T

abbrev pub Untidy : ℕ → List ℕ → Type 0
Untidy p w = T.Untidy rule_table p w
