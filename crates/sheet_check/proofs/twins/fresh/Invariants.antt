-- `sheet_check::twins::fresh` meets its contract: no node from the chain's word on is equal, and the chain falls. Assumes nothing.
use Rattle.sheet_check.proofs.Hashing.{Searched}
use Rattle.sheet_check.proofs.twins.fresh.Given as goal

abbrev pub invariant-loop-c : goal.invariant-loop-c
invariant-loop-c l = Searched l.laid.bytes.now l.i l.c

abbrev pub decreases-loop-c : goal.decreases-loop-c
decreases-loop-c l = l.c
