-- `cost_calls::call_constant::constant` meets its contract: the door, the amount tested, and the end needs no node. Assumes nothing.
use Rattle.std.proofs.Common.{arith, to_z-of_z, refl}
use Rattle.cost_calls.proofs.Sounding.{sound_untidy}
use Rattle.table_calls.proofs.Drawn.{written}
use Rattle.promises.specs.CostDeeds.{cost_looked}
use Rattle.cost_calls.proofs.Edge.{drawn}
use Rattle.cost_calls.proofs.Answering.{constant_ok, constant_within, constant_becomes}
use Rattle.table_calls.proofs.Meeting.{let_in, takes}
use Rattle.promises.specs.Range.{cost_most}
use Rattle.promises.specs.Integers.{Fit}
use Rattle.settings.proofs.Endings.{pass}
use mathlib.Core.Path.{subst, ◌∙◌}
use Rattle.cost_calls.proofs.call_constant.constant.Goals as goal

pub finish-requires : goal.finish-requires
finish-requires c =
    let e = to_z-of_z c.ranges.amount in
    let f : Fit cost_most c.args.amount = subst (Fit cost_most) e c.if-not-amount_ok.ensures in
    let s = c.door.ensures.sound c.in_ok-door.was in
    let q = (c.door.ensures.there c.in_ok-door.was).each 0 (omega arith) in (
      sound_untidy s c.args.place q,
      q,
      constant_ok c.word_of.result c.args.amount (c.word_of.ensures ∙ e) c.args.t.now,
      constant_within c.word_of.result c.args.amount (c.word_of.ensures ∙ e) c.args.t.now f,
    )

pub returns : goal.returns
returns c =
    let e = to_z-of_z c.ranges.amount in
    let f : Fit cost_most c.args.amount = subst (Fit cost_most) e (c.if-not-amount_ok.ensures) in
    takes refl (let_in c.door.ensures c.in_ok-door.was (pass (λ n. n f) refl))
    (written cost_looked drawn (λ s v. refl) (constant_becomes c.word_of.result c.args.amount
    (c.word_of.ensures ∙ e) c.finish.ensures)) tt
