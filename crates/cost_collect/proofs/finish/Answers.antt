-- `cost_collect::finish` meets its contract: with the place set the table is untidy, and tidied it is the picture with one cost replaced. Assumes nothing.
use Rattle.std.proofs.Common.{arith}
use Rattle.table_collect.proofs.Telling.{placed_lawful, placed_becomes}
use Rattle.cost_words.proofs.Regular.{regular}
use Rattle.cost_collect.proofs.Placing.{laying, both_placed}
use Rattle.cost_collect.proofs.finish.Goals as goal

pub tidy-requires : goal.tidy-requires
tidy-requires c =
    let u = c.requires.0.untidy in
    placed_lawful regular laying u c.requires.1 (both_placed _ c.args.p c.args.x c.args.a c.requires.1 (omega (arith, u.room))) c.requires.2

pub returns : goal.returns
returns c =
    let u = c.requires.0.untidy in
    placed_becomes regular laying u c.requires.1 (both_placed _ c.args.p c.args.x c.args.a c.requires.1 (omega (arith, u.room))) c.requires.2
    c.requires.3.fits (λ q h. (c.requires.0.range q h).fits) tt c.tidy.ensures
