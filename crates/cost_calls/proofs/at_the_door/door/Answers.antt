-- `cost_calls::at_the_door::door` meets its contract: the tests tell. Assumes nothing.
use Rattle.table_calls.proofs.Entering.{admitted}
use Rattle.cost_calls.proofs.at_the_door.door.Goals as goal

pub returns : goal.returns
returns c = admitted c.sound.result c.are_places.result c.sound.ensures c.are_places.ensures c.admit.ensures
