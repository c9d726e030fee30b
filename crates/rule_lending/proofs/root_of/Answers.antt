-- `rule_lending::root_of` meets its contract: the root word of a sound table is a branch word of it. Assumes nothing.
use Rattle.rule_lending.proofs.Inside.{lent_roots}
use Rattle.rule_lending.proofs.root_of.Goals as goal

pub returns : goal.returns
returns c = lent_roots c.requires.0 c.requires.1 c.root_word.ensures
