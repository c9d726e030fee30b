-- `rule_operations::call_apply::apply` meets its contract: the operator is tested past the door, and two root words are the operands. Assumes nothing.
use Rattle.std.proofs.Common.{refl, arith}
use mathlib.Core.Logic.{⊎_elim}
use Rattle.settings.proofs.Endings.{pass}
use Rattle.table_calls.proofs.Meeting.{let_in}
use Rattle.rule_operations.proofs.Operands.{apply_operands, apply_agrees}
use Rattle.rule_operations.proofs.Putting.{built_meets}
use Rattle.rule_operations.proofs.call_apply.apply.Goals as goal

pub put_joint-requires : goal.put_joint-requires
put_joint-requires c =
    let a = c.args in
    let e = c.door.ensures in
    let t = c.in_ok-door.was in (
      e.sound t,
      (e.there t).each 0 (omega arith),
      apply_operands (e.sound t) a.a a.b _ c.root_word.ensures c.root_word-2.ensures c.in-Some.operator (omega arith) ((e.there t).each 1 (omega arith)) ((e.there t).each 2 (omega arith)),
    )

pub returns : goal.returns
returns c =
    let a = c.args in
    let e = c.door.ensures in
    let t = c.in_ok-door.was in
    let q = c.in-Some.ensures in
    built_meets refl refl c.put_joint.ensures
    (apply_agrees (e.sound t) a.a a.b _ c.root_word.ensures c.root_word-2.ensures c.in-Some.operator a.operator q.0 q.2 ((e.there t).each 1 (omega arith)) ((e.there t).each 2 (omega arith)))
    (λ z. let_in e t (pass (⊎_elim (λ h. omega (arith, h, q.1, q.2)) (λ h. omega (arith, h, q.1, q.2))) z)) (λ k. tt) (λ y k. k)
