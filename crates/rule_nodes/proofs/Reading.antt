-- A rule table is a lawful holder, and its branch words are small. Assumes nothing.
use mathlib.Core.List.{List}
use Prim.Native.Nat.{ℕ, ◌+◌, ◌<◌}
use native.Mathlib.Omega.{arith}
use lib.ListN.{length}
use Rattle.table_words.specs.Holding.{Lawful}
use Rattle.table_records.proofs.Making as M
use Rattle.rule_words.specs.Table.{rule_table}
use Rattle.table_words.proofs.Reading.{goal_below}
use Rattle.rule_words.proofs.Reading.{length_nodes}
use Rattle.rule_words.proofs.Regular.{regular}
use Rattle.rule_nodes.specs.Nodes.{layout, Good}
use Rattle.promises.specs.Words.{count}
use Rattle.promises.specs.RuleWords.{rule_node_list as nodes}

pub lawful : Lawful layout
lawful = M.lawful rule_table

-- a branch word of the table
pub good_small : (w : List ℕ) (k x : ℕ) → Good w k x → x < 65536 + count w
good_small w k x g = omega (arith, goal_below regular (nodes w) (length (nodes w)) k x g, length_nodes w)
