-- `rule_lending::begin` meets its contract: the mark is the number of nodes. Assumes nothing.
use Rattle.rule_inside.specs.Settling.{marked_in}
use Rattle.rule_lending.proofs.begin.Goals as goal

pub returns : goal.returns
returns c = marked_in c.count_word.ensures
