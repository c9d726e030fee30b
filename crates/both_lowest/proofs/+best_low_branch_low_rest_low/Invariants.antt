-- `both_lowest::rest_low`, `best_low` and `branch_low` meet their contracts: the remaining features fall; the lowest of the first v values is kept, and the memory stays right. Assumes nothing.
use Rattle.std.proofs.Common.{◌+◌, ◌-◌, ◌*◌, ◌≡◌}
use Rattle.both_lowest.specs.Pairs.{told, cost_of, spot_to, Noted}
use Rattle.table_memory.specs.Memory.{Remembers}
use Rattle.promises.specs.Words.{features}
use Rattle.both_lowest.proofs.+best_low_branch_low_rest_low.Given as goal

abbrev pub decreases-rest_low : goal.decreases-rest_low
decreases-rest_low l = 3 * (features l.c.now - l.k) + 2

abbrev pub decreases-branch_low : goal.decreases-branch_low
decreases-branch_low l = 3 * (features l.c.now - l.k)

abbrev pub decreases-best_low : goal.decreases-best_low
decreases-best_low l = 3 * (features l.c.now - l.k) + 1

abbrev pub invariant-best_low-loop-v : goal.invariant-best_low-loop-v
invariant-best_low-loop-v l =
    (cost_of (spot_to l.c l.r l.k l.x l.b l.v) ≡ told l.best) × Remembers 3 (Noted l.c l.r) l.s
