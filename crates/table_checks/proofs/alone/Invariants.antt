-- `table_checks::alone` meets its contract: no node of the chain passed is a twin, and a node off the chain has another hash. Assumes nothing.
use Rattle.table_checks.proofs.Chaining.{Sought}
use Rattle.table_checks.proofs.alone.Given as goal

abbrev pub invariant-loop-c : goal.invariant-loop-c
invariant-loop-c l = Sought l.t l.i l.c

abbrev pub decreases-loop-c : goal.decreases-loop-c
decreases-loop-c l = l.c
