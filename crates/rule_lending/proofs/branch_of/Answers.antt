-- `rule_lending::branch_of` meets its contract: a phrase number is its own word. Assumes nothing.
use Rattle.std.proofs.Common.{refl}
use Rattle.rule_inside.specs.Branches.{says_in}
use Rattle.rule_lending.proofs.branch_of.Goals as goal

pub returns : goal.returns
returns c = says_in c.requires refl
