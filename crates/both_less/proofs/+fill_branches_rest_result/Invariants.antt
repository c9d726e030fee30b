-- `both_less::rest_result` and `fill_branches` meet their contracts: the remaining features fall; the first v branches are filled, and the memory is right for the rule table so far. Assumes nothing.
use Rattle.std.proofs.Common.{◌-◌, ◌*◌}
use Rattle.table_memory.specs.Memory.{Remembers}
use Rattle.rule_lending.specs.Building.{Filling}
use Rattle.both_less.specs.Less.{less_from}
use Rattle.both_less.specs.Memory.{Recalled}
use Rattle.promises.specs.Words.{features}
use Rattle.both_less.proofs.+fill_branches_rest_result.Given as goal

abbrev pub decreases-rest_result : goal.decreases-rest_result
decreases-rest_result l = 2 * (features l.c.now - l.k)

abbrev pub decreases-fill_branches : goal.decreases-fill_branches
decreases-fill_branches l = 2 * (features l.c.now - l.k) - 1

abbrev pub invariant-fill_branches-loop-v : goal.invariant-fill_branches-loop-v
invariant-fill_branches-loop-v l =
    Filling l.initial.t l.t l.k (less_from l.c l.k l.x l.y l.d) l.v l.list × Remembers 4 (Recalled l.c l.t) l.s
