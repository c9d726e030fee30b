-- `sheet_bytes::laying::Laid::feature` meets its contract: the array holds the place of the node, where its feature stands. Assumes nothing.
use Rattle.std.proofs.Common.{refl, arith}
use Rattle.sheet_bytes.proofs.Opening.{placed_feature, placed_inside, placed_few}
use Rattle.sheet_bytes.proofs.laying.Laid.feature.Goals as goal

pub bounds-self-self : goal.bounds-self-self
bounds-self-self c = omega (arith, placed_inside c.args.self.placed c.requires _ refl)

pub returns : goal.returns
returns c =
    let e = placed_feature c.args.self.placed c.requires _ c.from.result refl c.from.ensures in
    (e, omega (arith, placed_few c.args.self.placed c.requires))
