-- `rule_operations::joining::put_joint` meets its contract: what the engine built is settled. Assumes nothing.
use Rattle.std.proofs.Common.{length}
use Rattle.rule_settling.proofs.Settling.{settle_asks, settles}
use Rattle.rule_operators.specs.Operators.{number_of, forgotten_by}
use Rattle.rule_engine.specs.Joint.{joint}
use Rattle.rule_operations.proofs.joining.put_joint.Goals as goal

pub settle-requires : goal.settle-requires
settle-requires c =
    let a = c.args in
    settle_asks (joint a.t.now (number_of a.operator) (forgotten_by a.operator) (length a.ops.now) 0 a.ops.now) c.join-r.result
    c.requires.0 c.join-r.ensures c.requires.1 c.count_word-used.ensures

pub returns : goal.returns
returns c =
    let a = c.args in
    settles (joint a.t.now (number_of a.operator) (forgotten_by a.operator) (length a.ops.now) 0 a.ops.now) c.join-r.result
    c.requires.0 c.join-r.ensures c.requires.1 c.count_word-used.ensures c.settle.ensures
