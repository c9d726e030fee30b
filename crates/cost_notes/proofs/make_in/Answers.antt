-- `cost_notes::make_in` meets its contract: `make` adds to the words without notes, and leaves the far records. Assumes nothing.
use Rattle.std.proofs.Common.{arith}
use Rattle.cost_notes.proofs.Reading.{noted_holds, noted_armed, plain_head, plain_makes}
use Rattle.table_notes.proofs.Far.{kept_aside}
use Rattle.cost_notes.proofs.make_in.Goals as goal

pub make-requires : goal.make-requires
make-requires c =
    let w = c.args.t.now in
    (noted_holds w c.requires.1, omega (arith, c.requires.2, plain_head w 2 (omega arith)), noted_armed w _ _ c.requires.1 c.requires.2 c.requires.3)

pub returns : goal.returns
returns c =
    let m = c.make in
    (plain_makes _ _ c.args.k c.args.arms.now m.result c.requires.1 c.requires.2 m.ensures, kept_aside _ _ c.requires.0 m.ensures.grown.kept)
