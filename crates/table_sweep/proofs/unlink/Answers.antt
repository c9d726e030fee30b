-- `table_sweep::unlink` meets its contract: the links of the nodes from a to i are 0, and every other word is kept (Unlinking). Assumes nothing.
use Rattle.std.proofs.Common.{arith, refl}
use Rattle.table_sweep.proofs.Cutting.{unlinking_more, unlinked}
use Rattle.table_sweep.proofs.unlink.Goals as goal

pub loop-i-preserved : goal.loop-i-preserved
loop-i-preserved c = let l = c.loop-i in let v = l.invariant in (v.0, unlinking_more l.i (omega arith) (omega (arith, v.0)) v.1)

pub returns : goal.returns
returns c =
    let l = c.loop-i in let k = c.requires in let x = c.cut_heads.ensures in
    unlinked l.i _ _ k x l.invariant.1 (omega (arith, k.upto, x.front 19 (omega arith))) refl refl
