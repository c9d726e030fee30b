-- `cost_sound::range::pairs_ok` meets its contract: what is kept for the nodes passed is their own. Assumes nothing.
use Rattle.std.proofs.Common.{arith}
use Rattle.cost_sound.proofs.Ranging.{pairs_all}
use Rattle.cost_sound.proofs.range.pairs_ok.Goals as goal

pub returns : goal.returns
returns c = pairs_all c.requires c.loop-i.i (omega (arith, c.loop-i.invariant.0)) c.loop-i.invariant.1
