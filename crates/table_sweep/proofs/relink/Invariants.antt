-- `table_sweep::relink` meets its contract: the links of the first i nodes and the chain heads are those of the first i nodes (Relinking). Assumes nothing.
use Rattle.table_sweep.proofs.Relinking.{Relinking}
use Rattle.table_sweep.proofs.relink.Given as goal

abbrev pub invariant-loop-i : goal.invariant-loop-i
invariant-loop-i l = Relinking l.initial.t l.t l.i
