-- `both_calls::call_less::put_below` meets its contract: what the engine built is settled. Assumes nothing.
use Rattle.rule_lending.proofs.Settling.{settle_asks, settles}
use Rattle.promises.specs.CostWords.{cost_of}
use Rattle.promises.specs.CostOperations.{is_below}
use Rattle.both_calls.proofs.Operands.{comparable, below_made}
use Rattle.both_calls.proofs.call_less.put_below.Goals as goal

pub below-r-requires : goal.below-r-requires
below-r-requires c = comparable _ _ _ _ c.arm_of-x.ensures c.arm_of-y.ensures c.requires.0 c.requires.1 c.requires.2 c.requires.4 c.requires.5

pub settle-requires : goal.settle-requires
settle-requires c =
    settle_asks (is_below (cost_of c.args.costs.now c.args.a) (cost_of c.args.costs.now c.args.b)) c.below-r.result
    c.requires.0 (below_made _ _ _ _ c.arm_of-x.ensures c.arm_of-y.ensures c.below-r.result
    c.below-r.ensures) c.requires.3 c.begin-used.ensures

pub returns : goal.returns
returns c =
    settles (is_below (cost_of c.args.costs.now c.args.a) (cost_of c.args.costs.now c.args.b)) c.below-r.result c.requires.0
    (below_made _ _ _ _ c.arm_of-x.ensures c.arm_of-y.ensures c.below-r.result c.below-r.ensures) c.requires.3 c.begin-used.ensures c.settle.ensures
