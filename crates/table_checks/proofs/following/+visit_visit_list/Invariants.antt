-- `visit` and `visit_list` of `table_checks::following` meet their contracts: the branches passed are walked; a branch word is smaller than that of the node which has it. Assumes nothing.
use Rattle.std.proofs.Common.{◌+◌, ◌*◌}
use Rattle.table_checks.specs.Walk.{scan_below, shape_arm}
use Rattle.table_checks.proofs.Walking.{Walk}
use Rattle.promises.specs.Words.{count, body}
use Rattle.table_checks.proofs.following.+visit_visit_list.Given as goal

abbrev pub decreases-visit_list : goal.decreases-visit_list
decreases-visit_list l = 2 * (l.first + l.i)

abbrev pub decreases-visit : goal.decreases-visit
decreases-visit l = 2 * l.b + 1

abbrev pub invariant-visit_list-loop-v : goal.invariant-visit_list-loop-v
invariant-visit_list-loop-v l = Walk (scan_below l.first l.t l.i) (shape_arm l.first (body l.t l.i)) (count l.t) l.c l.v l.d
