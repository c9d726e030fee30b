-- `table_sweep::relink` meets its contract: the links of the first i nodes and the chain heads are those of the first i nodes (Relinking). Assumes nothing.
use Rattle.std.proofs.Common.{arith, refl}
use Rattle.table_sweep.proofs.Relinking.{relinking_more}
use Rattle.promises.specs.Words.{head}
use Rattle.table_sweep.proofs.relink.Goals as goal

pub loop-i-preserved : goal.loop-i-preserved
unfolding head
loop-i-preserved c = let l = c.loop-i in let g = c.hash_at-h.ensures in relinking_more _ _ _ c.requires l.invariant (omega arith) g.0 g.1 refl refl
