-- `cost_operations::call_price::put_prices` meets its contract: the prices are the branches of one node, and what was made is settled. Assumes nothing.
use Rattle.cost_sound.proofs.Pictures.{sound_narrow}
use Rattle.theory_costs.proofs.Range.{priced_within}
use Rattle.cost_settling.proofs.Settling.{sound_holds, settle_asks, settles}
use Rattle.cost_operations.proofs.Prices.{price_armed, price_made}
use Rattle.promises.specs.CostOperations.{priced}
use Rattle.cost_operations.proofs.call_price.put_prices.Goals as goal

pub make-r-requires : goal.make-r-requires
make-r-requires c = (
  sound_holds c.requires.0,
  c.requires.2.known,
  price_armed c.args.t.now c.args.feature c.args.prices.now c.arms_of.result (sound_holds c.requires.0)
      c.requires.2 c.arms_of.ensures (sound_narrow c.requires.0),
)

pub settle-requires : goal.settle-requires
settle-requires c =
    settle_asks (priced c.args.feature c.args.prices.now) c.make-r.result c.requires.0
    (price_made c.args.t.now c.args.feature c.args.prices.now c.arms_of.result (sound_holds c.requires.0) c.requires.2 c.arms_of.ensures c.make-r.new.t
    c.make-r.result c.make-r.ensures)
    c.requires.1 (c.count_word-used.ensures) (priced_within c.args.feature c.args.prices.now c.requires.2.priced.each)

pub returns : goal.returns
returns c =
    settles (priced c.args.feature c.args.prices.now) c.make-r.result c.requires.0
    (price_made c.args.t.now c.args.feature c.args.prices.now c.arms_of.result (sound_holds c.requires.0) c.requires.2 c.arms_of.ensures c.make-r.new.t
    c.make-r.result c.make-r.ensures)
    c.requires.1 (c.count_word-used.ensures) c.settle.ensures
