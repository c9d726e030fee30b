-- `cost_amounts::word_of` meets its contract: a number and the bias are its word. Assumes nothing.
use Rattle.std.proofs.Common.{arith}
use Rattle.cost_amounts.proofs.Signed.{biased_word}
use Rattle.theory_costs.proofs.Words.{int_word}
use Rattle.cost_amounts.proofs.word_of.Goals as goal

pub returns : goal.returns
returns c = rw (biased_word c.requires c.ranges.z) (int_word c.args.z (omega (arith, c.requires.bottom)))
