-- `sheet_bytes::laying::Laid::branch` meets its contract: the array holds the place of the node, and its branches stand after the feature. Assumes nothing.
use Rattle.std.proofs.Common.{refl, arith}
use Rattle.sheet_bytes.proofs.Opening.{placed_branch, placed_inside}
use Rattle.sheet_bytes.proofs.laying.Laid.branch.Goals as goal

pub spot-requires : goal.spot-requires
spot-requires c = omega (arith, c.requires.1, placed_inside c.args.self.placed c.requires.0 _ refl)

pub word_at-requires : goal.word_at-requires
word_at-requires c = omega (arith, c.spot.ensures, c.requires.1, placed_inside c.args.self.placed c.requires.0 _ refl)

pub returns : goal.returns
returns c = (
  placed_branch c.args.self.placed c.requires.0 _ c.spot.result c.args.v c.word_at.result refl c.spot.ensures c.word_at.ensures.0,
  c.word_at.ensures.1,
)
