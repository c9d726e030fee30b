-- `table_collect::copy_node` meets its contract: a branch word of a node says an earlier node, so the measure falls; the first v branches stand in the body (Filling). Assumes nothing.
use Rattle.table_collect.proofs.Keeping.{Filling}
use Rattle.table_collect.proofs.+copy_node.Given as goal

abbrev pub decreases-copy_node : goal.decreases-copy_node
decreases-copy_node l = l.i

abbrev pub invariant-loop-v : goal.invariant-loop-v
invariant-loop-v l = Filling l.first l.low l.initial.t l.t l.i l.v-end l.v l.list
