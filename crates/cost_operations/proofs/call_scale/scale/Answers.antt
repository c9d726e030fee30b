-- `cost_operations::call_scale::scale` meets its contract: the door, the factor tested, and it comes through as its word. Assumes nothing.
use Rattle.std.proofs.Common.{arith, to_z-of_z, refl, sym}
use Rattle.cost_operations.proofs.Operands.{operable, scale_agrees, range_ends}
use Rattle.table_calls.proofs.Drawn.{wrote}
use Rattle.cost_calls.proofs.Edge.{drawn}
use Rattle.table_calls.proofs.Meeting.{let_in, refuses}
use Rattle.promises.specs.CostOperations.{scaled}
use Rattle.promises.specs.CostDeeds.{cost_looked, costed}
use Rattle.promises.specs.CostDeeds as D
use Rattle.promises.specs.State.{on}
use Rattle.promises.specs.Table.{state_of}
use Rattle.promises.specs.Range.{cost_most}
use Rattle.promises.specs.Integers.{Fit}
use Rattle.settings.proofs.Endings.{stop, pass}
use mathlib.Core.Path.{subst, ◌∙◌}
use Rattle.cost_operations.proofs.call_scale.scale.Goals as goal

pub returns-then-not-amount_ok : goal.returns-then-not-amount_ok
returns-then-not-amount_ok c =
    let e = to_z-of_z c.ranges.factor in
    refuses refl refl (let_in c.door.ensures c.in_ok-door.was (stop (λ f. c.if-not-amount_ok.ensures (subst (Fit cost_most) (sym e) f))))

pub put_joint-requires : goal.put_joint-requires
put_joint-requires c =
    let e = c.door.ensures in
    let t = c.in_ok-door.was in
    let h = (e.there t).each 1 (omega arith) in (
      e.sound t,
      (e.there t).each 0 (omega arith),
      operable (e.sound t) _ _ _ c.args.a c.args.a c.arm_of-x.ensures
          c.arm_of-x.ensures h h (subst (Fit cost_most) (sym c.word_of.ensures)
          c.if-not-amount_ok.ensures),
    )

pub returns : goal.returns
returns c =
    let e = c.door.ensures in
    let t = c.in_ok-door.was in
    let i = to_z-of_z c.ranges.factor in
    let f : Fit cost_most c.args.factor = subst (Fit cost_most) i c.if-not-amount_ok.ensures in
    let h = scaled c.args.factor (on (state_of costed c.args.t.now) c.args.a) in
    let x = c.put_joint.ensures.joins h (scale_agrees c.args.t.now _ c.args.a _ c.args.factor c.arm_of-x.ensures
    (c.word_of.ensures ∙ i) ((e.there t).each 1 (omega arith))) in
    wrote cost_looked drawn {d = D.scale c.args.place c.args.a c.args.factor} refl refl x
    (let_in e t (pass (λ n. n f) (range_ends c.args.t.now h c.put_joint.result x.ends))) (λ q. tt) (λ y q. q)
