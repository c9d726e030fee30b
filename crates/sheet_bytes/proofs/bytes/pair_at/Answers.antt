-- `sheet_bytes::bytes::pair_at` meets its contract: the sum of the two bytes, each below 256. Assumes nothing.
use Rattle.std.proofs.Common.{arith}
use Rattle.promises.specs.Sheet.{pair}
use Rattle.sheet_bytes.proofs.bytes.pair_at.Goals as goal

pub returns : goal.returns
unfolding pair
returns c = (omega (arith, c.from.ensures, c.from_be_bytes.ensures), omega (arith, c.from.ensures, c.from_be_bytes.type_inv))
