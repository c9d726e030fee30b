-- `rule_lending::key_of` meets its contract: a branch word is its own key. Assumes nothing.
use Rattle.rule_lending.proofs.Inside.{key_is}
use Rattle.rule_lending.proofs.key_of.Goals as goal

pub returns : goal.returns
returns c = key_is c.args.b
