-- `cost_calls::call_open::open` meets its contract: what is laid out is a fresh table of costs. Assumes nothing.
use Rattle.promises.specs.CostDeeds.{cost_looked}
use Rattle.table_calls.proofs.Drawn.{opens}
use Rattle.cost_calls.proofs.Edge.{drawn}
use Rattle.cost_calls.proofs.Opened.{opened}
use Rattle.cost_calls.proofs.call_open.open.Goals as goal

pub returns : goal.returns
returns c = opens cost_looked drawn opened c.open.result c.open.ensures
