-- `table_checks::zeros` meets its contract: the bits of the words passed, put together, are 0 exactly if they are. Assumes nothing.
use Rattle.std.proofs.Common.{get_or, ◌≤◌, ◌<◌}
use Rattle.table_checks.proofs.Gathering.{Gathered}
use Rattle.table_checks.proofs.zeros.Given as goal

abbrev pub invariant-loop-j : goal.invariant-loop-j
invariant-loop-j l = Gathered (λ x. get_or l.t x 0) l.a l.j l.bits × (l.b < l.j → l.j ≤ l.a)
