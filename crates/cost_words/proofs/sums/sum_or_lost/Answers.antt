-- `cost_words::sums::sum_or_lost` meets its contract: a sum within bounds has a word, and no other has one. Assumes nothing.
use Rattle.std.proofs.Common.{arith}
use Rattle.cost_words.proofs.Summing.{sum_lost, sum_stands}
use Rattle.cost_words.proofs.sums.sum_or_lost.Goals as goal

pub returns-then-s-lt2294967296 : goal.returns-then-s-lt2294967296
returns-then-s-lt2294967296 c = let a = c.args in sum_lost a.a a.b (λ p q. omega arith)

pub returns : goal.returns
returns c = let a = c.args in sum_stands a.a a.b _ (omega arith) (omega arith)
