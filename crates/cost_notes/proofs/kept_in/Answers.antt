-- `cost_notes::kept_in` meets its contract: the near records are those without notes. Assumes nothing.
use Rattle.std.proofs.Common.{arith}
use Rattle.cost_notes.proofs.Reading.{noted_laid, noted_keeps, plain_head}
use Rattle.cost_notes.proofs.kept_in.Goals as goal

pub kept_span-requires : goal.kept_span-requires
kept_span-requires c =
    let d = noted_laid c.args.t.now c.requires.0 in let e = plain_head c.args.t.now 19 (omega arith) in
    record { room = omega (arith, c.requires.1, e, d.room, d.within); most = omega (arith, c.requires.1, e, d.most, d.within) }

pub returns : goal.returns
returns c = noted_keeps c.args.t.now c.requires.0 c.args.x _ _ c.requires.1 c.kept_span.ensures
