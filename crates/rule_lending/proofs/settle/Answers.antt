-- `rule_lending::settle` meets its contract: as the settling of nodes promises. Assumes nothing.
use Rattle.rule_inside.specs.Settling.{asking_out, ending_in}
use Rattle.rule_lending.proofs.settle.Goals as goal

pub settle-requires : goal.settle-requires
settle-requires c = asking_out c.requires

pub returns : goal.returns
returns c = ending_in c.settle.ensures
