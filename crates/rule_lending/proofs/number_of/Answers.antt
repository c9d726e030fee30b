-- `rule_lending::number_of` meets its contract: a phrase number is its own word. Assumes nothing.
use Rattle.std.proofs.Common.{refl}
use Rattle.rule_inside.specs.Branches.{number_out, says_in}
use Rattle.rule_lending.proofs.number_of.Goals as goal

pub returns : goal.returns
returns c = says_in (number_out c.requires) refl
