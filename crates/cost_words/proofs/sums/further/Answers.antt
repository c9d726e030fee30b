-- `cost_words::sums::further` meets its contract: of two integers, by their words. Assumes nothing.
use Rattle.std.proofs.Common.{arith, ap}
use mathlib.Core.Path.{◌∙◌}
use Rattle.cost_words.proofs.Summing.{further_max, further_min}
use Rattle.promises.specs.Integers.{int}
use Rattle.cost_words.proofs.sums.further.Goals as goal

pub returns-then-up : goal.returns-then-up
returns-then-up c = let a = c.args in (ap int c.max.ensures ∙ further_max a.up a.a a.b c.if-up.true, λ p q. omega arith)

pub returns-else-up : goal.returns-else-up
returns-else-up c = let a = c.args in (ap int c.min.ensures ∙ further_min a.up a.a a.b c.if-up.false, λ p q. omega arith)
