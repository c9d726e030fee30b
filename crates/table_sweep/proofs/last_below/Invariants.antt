-- `table_sweep::last_below` meets its contract: each node met is the last of its hash below the one before (Going). Assumes nothing.
use Rattle.table_sweep.proofs.Cutting.{Going}
use Rattle.table_sweep.specs.Sweeping.{Chain}
use Rattle.table_sweep.proofs.last_below.Given as goal

abbrev pub invariant-loop-c : goal.invariant-loop-c
invariant-loop-c l = Chain l.t l.h l.a × Going l.t l.h l.a l.c

abbrev pub decreases-loop-c : goal.decreases-loop-c
decreases-loop-c l = l.c
