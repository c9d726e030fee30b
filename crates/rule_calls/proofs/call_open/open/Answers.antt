-- `rule_calls::call_open::open` meets its contract: what is laid out is a fresh table of rules. Assumes nothing.
use Rattle.promises.specs.RuleDeeds.{looked}
use Rattle.table_calls.proofs.Drawn.{opens}
use Rattle.rule_calls.proofs.Edge.{drawn}
use Rattle.rule_calls.proofs.Opened.{opened}
use Rattle.rule_calls.proofs.call_open.open.Goals as goal

pub returns : goal.returns
returns c = opens looked drawn opened c.open.result c.open.ensures
