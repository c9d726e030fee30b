-- `sheet_bytes::front::Head::size` meets its contract: the byte of the feature in the second section. Assumes nothing.
use Rattle.std.proofs.Common.{arith}
use Rattle.sheet_bytes.proofs.Framing.{size_least, size_most}
use Rattle.sheet_bytes.proofs.front.Head.size.Goals as goal

pub returns : goal.returns
returns c = let o = c.args.self.opens in (c.from.ensures, omega (arith, size_least o _ c.requires, c.from.ensures), omega (arith, size_most o _ c.requires, c.from.ensures))
