-- `table_sweep::unlink` meets its contract: the links of the nodes from a to i are 0, and every other word is kept (Unlinking). Assumes nothing.
use Rattle.std.proofs.Common.{length, ◌+◌, ◌*◌, ◌≤◌}
use Rattle.table_sweep.proofs.Cutting.{Unlinking}
use Rattle.promises.specs.Words.{count}
use Rattle.table_sweep.proofs.unlink.Given as goal

abbrev pub invariant-loop-i : goal.invariant-loop-i
invariant-loop-i l = (8192 + 16 * count l.initial.t ≤ length l.initial.t) × Unlinking l.initial.t l.t l.a l.i
