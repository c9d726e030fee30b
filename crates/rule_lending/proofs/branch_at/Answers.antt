-- `rule_lending::branch_at` meets its contract: the branch means the rule with its first feature held. Assumes nothing.
use Rattle.rule_inside.specs.Branches.{lent_out}
use Rattle.rule_lending.proofs.Inside.{lent_goes}
use Rattle.rule_lending.proofs.branch_at.Goals as goal

pub child_of-requires : goal.child_of-requires
child_of-requires c = (lent_out c.requires.0, c.requires.1, c.requires.2)

pub returns : goal.returns
returns c = lent_goes c.args.v c.requires.0 c.requires.1 c.child_of.ensures
