-- `cost_notes::lowest` meets its contract: the tops are those without notes. Assumes nothing.
use Rattle.std.proofs.Common.{arith}
use Rattle.cost_notes.proofs.Reading.{noted_laid, noted_top, plain_head}
use Rattle.cost_notes.proofs.lowest.Goals as goal

pub top_of-requires : goal.top_of-requires
top_of-requires c = (noted_laid c.args.t.now c.requires.0, omega (arith, c.requires.1, plain_head c.args.t.now 19 (omega arith)))

pub top_of-requires-2 : goal.top_of-requires-2
top_of-requires-2 c = (noted_laid c.args.t.now c.requires.0, omega (arith, c.requires.2, plain_head c.args.t.now 19 (omega arith)))

pub returns : goal.returns
returns c =
    let p = noted_top c.args.t.now c.requires.0 c.args.x c.requires.1 in
    let q = noted_top c.args.t.now c.requires.0 c.args.y c.requires.2 in
    (omega arith, omega arith, λ z h g. omega arith)
