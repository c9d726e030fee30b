-- `sheet_bytes::front::Head::features` meets its contract: the count of the second section, which a good front bounds. Assumes nothing.
use Rattle.std.proofs.Common.{arith}
use Rattle.sheet_bytes.proofs.Framing.{sizes_length, few}
use Rattle.sheet_bytes.proofs.front.Head.features.Goals as goal

pub returns : goal.returns
returns c =
    let o = c.args.self.opens in (c.pair_at.ensures.0, omega (arith, o.list.some, sizes_length o, c.pair_at.ensures.0), omega (arith, few o, c.pair_at.ensures.0))
