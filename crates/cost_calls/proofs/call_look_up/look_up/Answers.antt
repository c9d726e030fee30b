-- `cost_calls::call_look_up::look_up` meets its contract: the door, the setting tested, and the way adds up to the cost. Assumes nothing.
use Rattle.std.proofs.Common.{refl, ap}
use Rattle.cost_calls.proofs.Edge.{drawn}
use Rattle.table_calls.proofs.Drawn.{looks}
use Rattle.promises.specs.CostDeeds.{cost_looked}
use Rattle.theory.specs.Costs.{amount}
use Rattle.cost_calls.proofs.call_look_up.look_up.Goals as goal

pub returns : goal.returns
returns c =
    looks cost_looked drawn c.door.ensures c.in_ok-door.was
    c.if-not-setting_fits.ensures
    refl (ap amount c.walk.ensures.0) c.walk.ensures.1
