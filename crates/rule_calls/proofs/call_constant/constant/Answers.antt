-- `rule_calls::call_constant::constant` meets its contract: what the door refuses is refused, and a phrase needs no node. Assumes nothing.
use Rattle.std.proofs.Common.{arith, ◌<◌, refl, sym}
use Rattle.rule_calls.proofs.Sounding.{sound_untidy}
use Rattle.table_calls.proofs.Drawn.{written}
use Rattle.promises.specs.RuleDeeds.{looked}
use Rattle.rule_calls.proofs.Edge.{drawn}
use Rattle.rule_calls.proofs.Answering.{constant_becomes}
use Rattle.rule_words.proofs.Reading.{decode_phrase}
use Rattle.table_calls.proofs.Meeting.{let_in, takes}
use Rattle.promises.specs.RuleWords.{rule_node_list}
use Rattle.settings.proofs.Endings.{pass}
use Rattle.theory.specs.WellFormed.{Ok}
use mathlib.Core.Path.{subst}
use Rattle.rule_calls.proofs.call_constant.constant.Goals as goal

pub finish-requires : goal.finish-requires
finish-requires c =
    let s = c.door.ensures.sound c.in_ok-door.was in
    let h : c.args.number < 65536 = omega arith in
    let q = (c.door.ensures.there c.in_ok-door.was).each 0 (omega arith) in (
      sound_untidy s c.args.place q,
      q,
      subst (Ok (rule_node_list c.args.t.now) 0) (sym (decode_phrase c.args.number h)) tt,
    )

pub returns : goal.returns
returns c =
    takes refl (let_in c.door.ensures c.in_ok-door.was (pass (λ k. k (omega arith)) refl))
    (written looked drawn (λ s v. refl) (constant_becomes (omega arith) c.finish.ensures)) tt
