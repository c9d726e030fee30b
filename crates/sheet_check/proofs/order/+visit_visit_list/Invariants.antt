-- `sheet_check::order::visit` and `sheet_check::order::visit_list` meet their contracts: what is left of the branches is the whole walk; a branch word is smaller than that of the
-- node which has it. Assumes nothing.
use Rattle.std.proofs.Common.{◌+◌, ◌*◌}
use Rattle.sheet_check.specs.Diagram.{further}
use Rattle.sheet_check.proofs.Walks.{Walked}
use Rattle.promises.specs.Sheet.{sheet_node as node_of}
use Rattle.sheet_check.proofs.order.+visit_visit_list.Given as goal

abbrev pub decreases-visit_list : goal.decreases-visit_list
decreases-visit_list l = 2 * (65536 + l.i)

abbrev pub decreases-visit : goal.decreases-visit
decreases-visit l = 2 * l.w + 1

abbrev pub invariant-visit_list-loop-v : goal.invariant-visit_list-loop-v
invariant-visit_list-loop-v l = Walked (further l.lawful.laid.bytes.now l.i) (node_of l.lawful.laid.bytes.now l.i).branches l.c l.v l.d
