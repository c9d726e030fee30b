-- `rule_operations::call_forget::forget` meets its contract: the feature is tested past the door, and one root word for each of its values is an operand. Assumes nothing.
use Rattle.std.proofs.Common.{refl, arith}
use mathlib.Core.Path.{◌∙◌}
use lib.ListN.{replicate, get_or-replicate}
use Rattle.rule_engine.proofs.Recalling.{operands_taken, joint_taken}
use Rattle.settings.proofs.Endings.{stop, pass}
use Rattle.table_words.proofs.Words.{length_sizes}
use Rattle.table_calls.proofs.Meeting.{let_in, refuses}
use Rattle.rule_operations.proofs.Operands.{forget_operands, forget_agrees}
use Rattle.rule_operations.proofs.Putting.{built_meets}
use Rattle.rule_operations.proofs.call_forget.forget.Goals as goal

pub returns-then-features_word-feature : goal.returns-then-features_word-feature
returns-then-features_word-feature c =
    refuses refl refl (let_in c.door.ensures c.in_ok-door.was (stop (omega (arith, c.features_word.ensures, length_sizes c.args.t.now))))

pub put_joint-requires : goal.put_joint-requires
put_joint-requires c =
    let a = c.args in
    let e = c.door.ensures in
    let t = c.in_ok-door.was in
    let z = (e.sound t).header.fit.large a.feature (omega arith) in (
      e.sound t,
      (e.there t).each 0 (omega arith),
      operands_taken a.t.now a.feature c.size_word-m.result 0 (replicate 9 c.root_word-b.result) (omega (arith, z.1, c.size_word-m.ensures))
          (forget_operands (e.sound t) a.from a.feature c.size_word-m.result _ (omega arith) c.size_word-m.ensures
          (λ j h. get_or-replicate 9 j c.root_word-b.result 0 h ∙ c.root_word-b.ensures) ((e.there t).each 1 (omega arith))),
    )

pub returns : goal.returns
returns c =
    let a = c.args in
    let e = c.door.ensures in
    let t = c.in_ok-door.was in
    let z = (e.sound t).header.fit.large a.feature (omega arith) in
    built_meets refl refl c.put_joint.ensures
    (λ s v. joint_taken a.t.now 7 a.feature c.size_word-m.result 0 (replicate 9 c.root_word-b.result) (omega (arith, z.1, c.size_word-m.ensures)) s
    ∙ forget_agrees (e.sound t) a.from a.feature c.size_word-m.result (replicate 9 c.root_word-b.result) (omega arith) c.size_word-m.ensures
    (λ j h. get_or-replicate 9 j c.root_word-b.result 0 h ∙ c.root_word-b.ensures) ((e.there t).each 1 (omega arith)) s v)
    (λ z. let_in e t (pass (λ h. omega (arith, h, length_sizes a.t.now)) z)) (λ k. tt) (λ y k. k)
