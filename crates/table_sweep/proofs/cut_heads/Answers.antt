-- `table_sweep::cut_heads` meets its contract: the chains whose heads are before word h begin below a, and every other word is kept (Cutting). Assumes nothing.
use Rattle.std.proofs.Common.{arith}
use Rattle.table_sweep.proofs.Cutting.{cutting_chain, cutting_more, cut}
use Rattle.table_sweep.proofs.cut_heads.Goals as goal

pub last_below-requires : goal.last_below-requires
last_below-requires c = let l = c.loop-h in cutting_chain l.invariant.2 l.invariant.0 (omega arith) l.invariant.1

pub loop-h-preserved : goal.loop-h-preserved
loop-h-preserved c =
    let l = c.loop-h in
    (omega arith, l.invariant.1, cutting_more l.invariant.2 l.invariant.0 (omega arith) _ (omega (arith, l.invariant.1.room)) c.last_below.ensures)

pub returns : goal.returns
returns c = let l = c.loop-h in cut l.h (omega arith) l.invariant.2
