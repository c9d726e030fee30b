-- The node list and the costs by index. Assumes nothing.
use mathlib.Core.Path.{◌≡◌}
use mathlib.Core.List.{List}
use Prim.Native.Nat.{ℕ, ◌<◌}
use lib.ListN.{length, get_or}
use Rattle.theory.specs.Diagrams.{at, blank}
use Rattle.theory.specs.Functions.{zero_fun}
use Rattle.table_words.specs.Table.{node_at}
use Rattle.table_words.proofs.Reading as R
use Rattle.table_words.proofs.Tab.{length_tab, get_or_tab}
use Rattle.cost_words.specs.Table.{cost_table}
use Rattle.promises.specs.Words.{count, size, feature, body}
use Rattle.promises.specs.CostWords.{cost_branch as branch, goes, added, cost_node_list as nodes, cost_of, costs_of}

pub length_nodes : (w : List ℕ) → length (nodes w) ≡ count w
length_nodes w = R.length_nodes cost_table w

pub at_nodes : (w : List ℕ) (i : ℕ) → i < count w → at (nodes w) i ≡ node_at cost_table w i
at_nodes w i h = R.at_nodes cost_table w i h

-- branch v of node i
pub branch_at_lem : (w : List ℕ) (i v : ℕ) → i < count w → v < size w (feature w i) → get_or (at (nodes w) i).branches v blank ≡ branch (goes (body w i) v) (added (body w i) v)
branch_at_lem w i v h hv = R.branch_at_lem cost_table w i v h hv

-- the costs
pub length_costs : (w : List ℕ) → length (costs_of w) ≡ 16
unfolding costs_of
length_costs w = length_tab (cost_of w) 16

pub at_costs : (w : List ℕ) (p : ℕ) → p < 16 → get_or (costs_of w) p zero_fun ≡ cost_of w p
unfolding costs_of
at_costs w p h = get_or_tab (cost_of w) 16 p zero_fun h
