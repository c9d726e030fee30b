-- `cost_words::sums::difference_or_lost` meets its contract: a difference within bounds has a word, and no other has one. Assumes nothing.
use Rattle.std.proofs.Common.{arith}
use Rattle.cost_words.proofs.Summing.{minus_lost, minus_stands}
use Rattle.cost_words.proofs.sums.difference_or_lost.Goals as goal

pub returns-in_err-d : goal.returns-in_err-d
returns-in_err-d c = let a = c.args in rw c.from_residual.ensures (minus_lost a.a a.b (λ p q. c.in_err-d.ensures (omega arith)))

pub returns-then-d-gt4000000000 : goal.returns-then-d-gt4000000000
returns-then-d-gt4000000000 c = let a = c.args in minus_lost a.a a.b (λ p q. omega (arith, c.in_ok-d.ensures))

pub returns : goal.returns
returns c = let a = c.args in minus_stands a.a a.b _ (omega arith) (omega (arith, c.in_ok-d.ensures))
