-- `rule_operations::call_literal::bits_of` meets its contract: the bits below v stand in the list, and past it nothing but 0. Assumes nothing.
use Rattle.std.proofs.Common.{arith}
use Rattle.std.proofs.lemmas.Grind.{common_steps}
use Rattle.promises.specs.Operators.{bit_of}
use Rattle.rule_operations.proofs.call_literal.bits_of.Goals as goal

pub loop-v-preserved : goal.loop-v-preserved
unfolding bit_of
loop-v-preserved c = grind (arith, common_steps)
