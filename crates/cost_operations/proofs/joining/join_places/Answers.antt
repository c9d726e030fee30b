-- `cost_operations::joining::join_places` meets its contract: the door, and the branches of the places are the operands. Assumes nothing.
use Rattle.std.proofs.Common.{arith, refl}
use Rattle.cost_operations.proofs.Operands.{operable, places_agree, range_ends}
use Rattle.table_calls.proofs.Drawn.{wrote}
use Rattle.cost_calls.proofs.Edge.{drawn}
use Rattle.cost_engine.specs.Joint.{op_of}
use Rattle.table_calls.proofs.Meeting.{let_in}
use Rattle.promises.specs.CostOperations.{joined}
use Rattle.promises.specs.CostDeeds.{cost_looked, costed, join}
use Rattle.promises.specs.State.{on}
use Rattle.promises.specs.Table.{state_of}
use Rattle.cost_operations.proofs.joining.join_places.Goals as goal

pub put_joint-requires : goal.put_joint-requires
put_joint-requires c =
    let e = c.door.ensures in
    let t = c.in_ok-door.was in (
      e.sound t,
      (e.there t).each 0 (omega arith),
      operable (e.sound t) c.args.o _ _ c.args.a c.args.b c.arm_of-x.ensures
          c.arm_of-y.ensures ((e.there t).each 1 (omega arith)) ((e.there t).each 2 (omega arith)) c.requires,
    )

pub returns : goal.returns
returns c =
    let e = c.door.ensures in
    let t = c.in_ok-door.was in
    let z = state_of costed c.args.t.now in
    let h = joined (op_of c.args.o) (on z c.args.a) (on z c.args.b) in
    let x = c.put_joint.ensures.joins h (places_agree (e.sound t) c.args.o _ _ c.args.a c.args.b c.arm_of-x.ensures
    c.arm_of-y.ensures ((e.there t).each 1 (omega arith)) ((e.there t).each 2 (omega arith))) in
    wrote cost_looked drawn {d = join (op_of c.args.o) c.args.place c.args.a c.args.b} refl refl x
    (let_in e t (range_ends c.args.t.now h c.put_joint.result x.ends)) (λ q. tt) (λ y q. q)
