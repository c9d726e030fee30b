-- `sheet_bytes::front::Head::sizes` meets its contract: as many bytes as there are features, from the sixth on. Assumes nothing.
use Rattle.sheet_bytes.proofs.Places.{part_sizes}
use Rattle.sheet_bytes.proofs.front.Head.sizes.Goals as goal

pub returns : goal.returns
returns c = part_sizes c.args.self.bytes.now c.features-n.result c.features-n.ensures.0
