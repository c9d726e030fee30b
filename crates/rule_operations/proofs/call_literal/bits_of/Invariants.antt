-- `rule_operations::call_literal::bits_of` meets its contract: the bits below v stand in the list, and past it nothing but 0. Assumes nothing.
use Rattle.rule_operations.specs.Literal.{BitList}
use Rattle.rule_operations.proofs.call_literal.bits_of.Given as goal

abbrev pub invariant-loop-v : goal.invariant-loop-v
invariant-loop-v l = BitList l.bits l.v l.list
