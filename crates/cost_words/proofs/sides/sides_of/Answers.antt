-- `cost_words::sides::sides_of` meets its contract: the furthest of the branches passed, on each side. Assumes nothing.
use Rattle.std.proofs.Common.{arith}
use Rattle.cost_words.proofs.Keeping.{sides_one, sides_more, side_lost}
use Rattle.cost_words.proofs.sides.sides_of.Goals as goal

pub returns-in_err-best : goal.returns-in_err-best
returns-in_err-best c = rw c.from_residual.ensures (side_lost c.args.t.now c.args.list c.args.m 0 (omega (arith, c.requires.some)) c.in_err-best.ensures)

pub loop-v-init : goal.loop-v-init
loop-v-init c = sides_one c.args.t.now c.args.list _ c.in_ok-best.ensures

pub returns-in_err-x : goal.returns-in_err-x
returns-in_err-x c = rw c.from_residual-in_err-x.ensures (side_lost c.args.t.now c.args.list c.args.m c.loop-v.v (omega arith) c.in_err-x.ensures)

pub loop-v-preserved : goal.loop-v-preserved
loop-v-preserved c = sides_more c.args.t.now c.args.list c.loop-v.v _ _ _ (omega arith) c.loop-v.invariant c.in_ok-x.ensures c.wider-best.ensures
