-- `rule_lending::make` meets its contract: what the node's function made and answered. Assumes nothing.
use Rattle.rule_inside.specs.Building.{listed_out, made_in}
use Rattle.rule_lending.proofs.make.Goals as goal

pub make-requires : goal.make-requires
make-requires c = listed_out c.requires

pub returns : goal.returns
returns c = made_in c.make.ensures
