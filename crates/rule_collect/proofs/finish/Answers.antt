-- `rule_collect::finish` meets its contract: with the root set the table is untidy, and tidied it is the picture with one rule replaced. Assumes nothing.
use Rattle.std.proofs.Common.{arith}
use Rattle.table_collect.proofs.Telling.{placed, placed_lawful, placed_becomes}
use Rattle.rule_words.proofs.Regular.{regular}
use Rattle.rule_words.proofs.Bounding.{branch_small, rule_small}
use Rattle.rule_collect.proofs.Placing.{laying}
use Rattle.rule_collect.proofs.finish.Goals as goal

pub tidy-requires : goal.tidy-requires
tidy-requires c =
    placed_lawful regular laying c.requires.0 c.requires.1 (placed regular laying _ c.args.p c.args.b c.requires.1 (omega (arith, c.requires.0.room))) c.requires.2

pub returns : goal.returns
returns c =
    placed_becomes regular laying c.requires.0 c.requires.1 (placed regular laying _ c.args.p c.args.b c.requires.1 (omega (arith, c.requires.0.room))) c.requires.2
    (λ r x. branch_small _ c.args.b r) (λ q h r x. rule_small _ q r) tt c.tidy.ensures
