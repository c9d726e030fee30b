-- `put` meets its contract. The invariant: the first i results are laid. Assumes nothing.
use Rattle.std.proofs.Common.{◌≡◌, take}
use Rattle.promises.specs.ForC.{placed}
use Rattle.c_results.proofs.put.Given as goal

abbrev pub invariant-loop-i : goal.invariant-loop-i
invariant-loop-i l = l.out ≡ placed (take l.i l.results) l.initial.out
