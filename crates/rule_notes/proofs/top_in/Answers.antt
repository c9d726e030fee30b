-- `rule_notes::top_in` meets its contract: the tops are those without notes. Assumes nothing.
use Rattle.std.proofs.Common.{arith}
use Rattle.rule_notes.proofs.Reading.{noted_laid, noted_top, plain_head}
use mathlib.Core.Path.{◌∙◌}
use Rattle.rule_notes.proofs.top_in.Goals as goal

pub top_of-requires : goal.top_of-requires
top_of-requires c = (noted_laid c.args.t.now c.requires.0, omega (arith, c.requires.1, plain_head c.args.t.now 19 (omega arith)))

pub returns : goal.returns
returns c = c.top_of.ensures ∙ noted_top c.args.t.now c.requires.0 c.args.b c.requires.1
