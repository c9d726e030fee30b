-- `both_choose::lowest_of` meets its contract: it is no higher than any of the three tops. Assumes nothing.
use Rattle.std.proofs.Common.{arith}
use Rattle.both_choose.proofs.Walking.{lowest_is}
use Rattle.both_choose.proofs.lowest_of.Goals as goal

pub returns : goal.returns
returns c = let l = c.lowest.ensures in lowest_is _ _ _ _ _ _ c.top_at.result c.top_at.ensures (omega (arith, c.min.ensures)) (omega (arith, c.min.ensures, l.0)) (omega (arith, c.min.ensures, l.1))
