-- `rule_numbering::width` meets its contract: each node's feature is one of the table's (known). Assumes nothing.
use Rattle.std.proofs.Common.{arith}
use Rattle.rule_numbering.proofs.Numbers.{few, known, sized}
use Rattle.rule_numbering.proofs.width.Goals as goal

pub width-requires : goal.width-requires
width-requires c =
    let s = c.requires.0 in
    (omega (arith, s.room), omega (arith, s.most), omega (arith, few s, known s c.args.i c.requires.1))

pub returns : goal.returns
returns c = (c.width.ensures, omega (arith, c.width.ensures, sized c.requires.0 c.args.i c.requires.1))
