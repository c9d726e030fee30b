-- `rule_calls::call_copy::copy` meets its contract: what the door refuses is refused, and the branch is there. Assumes nothing.
use Rattle.std.proofs.Common.{arith, ℕ, refl, sym}
use Rattle.rule_calls.proofs.Sounding.{sound_root, sound_untidy}
use Rattle.table_calls.proofs.Drawn.{written, placed}
use Rattle.promises.specs.RuleDeeds.{looked}
use Rattle.rule_calls.proofs.Edge.{drawn}
use Rattle.rule_calls.proofs.Answering.{copy_becomes}
use Rattle.table_calls.proofs.Meeting.{let_in, takes}
use Rattle.promises.specs.RuleWords.{decode, rule_node_list}
use Rattle.theory.specs.WellFormed.{Ok}
use mathlib.Core.Path.{subst}
use Rattle.rule_calls.proofs.call_copy.copy.Goals as goal

pub finish-requires : goal.finish-requires
finish-requires c =
    let e = c.door.ensures in
    let t = c.in_ok-door.was in (
      sound_untidy (e.sound t) c.args.place ((e.there t).each 0 (omega arith)),
      (e.there t).each 0 (omega arith),
      subst (λ (x : ℕ). Ok (rule_node_list c.args.t.now) 0 (decode x)) (sym c.root_word-b.ensures) (sound_root (e.sound t) c.args.from ((e.there t).each 1 (omega arith))),
    )

pub returns : goal.returns
returns c =
    let e = c.door.ensures in
    let t = c.in_ok-door.was in
    takes refl (let_in e t refl) (written looked drawn (placed looked drawn c.args.t.now c.args.from ((e.there t).each 1 (omega arith)))
    (copy_becomes c.args.from c.root_word-b.ensures c.finish.ensures)) tt
