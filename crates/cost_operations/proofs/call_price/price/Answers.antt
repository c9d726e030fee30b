-- `cost_operations::call_price::price` meets its contract: the door, each test in its turn, and the list is put where none refuses. Assumes nothing.
use Rattle.std.proofs.Common.{refl}
use Rattle.cost_operations.proofs.Prices.{listed_bad, listed_good}
use Rattle.table_calls.proofs.Drawn.{room_ends, wrote}
use Rattle.promises.specs.CostDeeds.{cost_looked}
use Rattle.cost_calls.proofs.Edge.{drawn}
use Rattle.table_calls.proofs.Meeting.{let_in, refuses}
use Rattle.table_calls.proofs.Theorems.{puts_one}
use Rattle.promises.specs.CostOperations.{priced}
use Rattle.promises.specs.CostDeeds as D
use Rattle.settings.proofs.Endings.{stop, pass}
use Rattle.cost_operations.proofs.call_price.price.Goals as goal

pub returns-then-not-prices_fit : goal.returns-then-not-prices_fit
returns-then-not-prices_fit c =
    refuses refl refl (let_in c.door.ensures c.in_ok-door.was (stop (listed_bad c.args.feature c.args.prices.now c.args.t.now c.if-not-prices_fit.ensures)))

pub returns : goal.returns
returns c =
    let g = priced c.args.feature c.args.prices.now in
    let x = puts_one c.put_prices.ensures g (λ s v. refl) in
    wrote cost_looked drawn {d = D.price c.args.place c.args.feature c.args.prices.now} refl refl x
    (let_in c.door.ensures c.in_ok-door.was (pass (listed_good c.args.feature c.args.prices.now c.args.t.now c.if-not-prices_fit.ensures)
    (room_ends cost_looked drawn c.args.t.now g c.put_prices.result x.ends))) (λ q. tt) (λ y q. q)
