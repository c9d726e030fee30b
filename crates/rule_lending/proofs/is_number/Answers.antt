-- `rule_lending::is_number` meets its contract: phrase numbers are the words below the first node's. Assumes nothing.
use Rattle.rule_lending.proofs.Inside.{tells_number}
use Rattle.rule_lending.proofs.is_number.Goals as goal

pub returns : goal.returns
returns c = tells_number c.args.b
