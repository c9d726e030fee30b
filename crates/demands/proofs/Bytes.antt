-- The laws of the calls on bytes alone, and that the stepper meets its deed. Assumes nothing.
use mathlib.Core.Path.{◌≡◌, refl, sym, ◌∙◌}
use mathlib.Core.Option.{Option, some, none}
use Rattle.std.specs.Prelude.{Result, Ok, Err}
use Rattle.settings.specs.declared.refusals.Refusal.{Refusal}
use mathlib.Core.List.{List}
use Prim.Native.Nat.{ℕ}
use native.Mathlib.Omega.{arith}
use Rattle.theory.proofs.Asked.{asked_one}
use Rattle.settings.specs.Step.{values_of, next_of, Gives, Steps}
use Rattle.settings.specs.declared.steps.Setting.{Setting}
use Rattle.settings.specs.declared.steps.Stepped.{Stepped}
use Rattle.settings.proofs.Endings.{pass}
use Rattle.promises.specs.Sheet.{sheet_sizes, sheet_rule}
use Rattle.promises.specs.Deed.{Meets}
use Rattle.promises.specs.RuleDeeds.{looked}
use Rattle.promises.specs.SheetDeeds.{look_up_in, filled, look_up_all_in}
use Rattle.table_calls.proofs.Like.{like_refl}
use Rattle.table_calls.proofs.Meeting.{refuses, takes}
use Rattle.demands.specs.ByteDeeds.{stepped, step_on}
use Rattle.demands.specs.ByteCalls.{Call, step_call, look_up_call, look_up_all_call, deed}
use Rattle.demands.proofs.Firm.{neg, newer}
use Rattle.demands.proofs.Effects.{on_none}
use Rattle.demands.proofs.Lawful.{Lawful, answer_one}

-- what a taken step gives is one thing
gives_one : (S : List ℕ) (w : Option (List ℕ)) (r q : Stepped) → Gives S w r → Gives S w q → r ≡ q
gives_one S (some t) r q a b = a ∙ sym b
gives_one S none r q a b = a ∙ sym b

step_lawful : (S : List ℕ) (s : Setting) → Lawful on_none (step_on S s)
step_lawful S s =
    record {
      ordered = λ z. (omega arith, tt);
      firm = λ z. (neg, tt);
      cases_like = λ z y a. like_refl ((step_on S s).cases tt);
      writes_like = λ z y a e. tt;
      gives_like = λ z y a e r g. g;
      one = λ z r q a b g h. answer_one stepped r q (a ∙ sym b) (gives_one S (next_of S (values_of s)) (stepped.value r) (stepped.value q) g h);
    }

-- THEOREM: the stepper's promise is that of its deed
pub step_meets : (S : List ℕ) (s : Setting) (r : Result Stepped Refusal) → Steps S s r → Meets (step_on S s) tt tt r
step_meets S s (Ok t) a = takes refl (pass (λ n. n tt) a.ends) tt a.gives
step_meets S s (Err x) a = refuses refl refl (pass (λ n. n tt) a.ends)

look_up_lawful : (s t : List ℕ) → Lawful on_none (look_up_in s t)
look_up_lawful s t =
    record {
      ordered = λ z. (omega arith, (omega arith, (omega arith, tt)));
      firm = λ z. (newer, (neg, (neg, tt)));
      cases_like = λ z y a. like_refl ((look_up_in s t).cases tt);
      writes_like = λ z y a e. tt;
      gives_like = λ z y a e r g. g;
      one = λ z r q a b g h.
          let n = asked_one (sheet_sizes s) (sheet_rule s) t (looked.value r).1 (looked.value q).1 g.1 h.1 in
          answer_one looked r q (a ∙ sym b) (λ i. ((g.0 ∙ sym h.0) i, n i));
    }

look_up_all_lawful : (s t out : List ℕ) → Lawful on_none (look_up_all_in s t out)
look_up_all_lawful s t out =
    record {
      ordered = λ z. (omega arith, (omega arith, (omega arith, tt)));
      firm = λ z. (newer, (neg, (neg, tt)));
      cases_like = λ z y a. like_refl ((look_up_all_in s t out).cases tt);
      writes_like = λ z y a e. tt;
      gives_like = λ z y a e r g. g;
      one = λ z r q a b g h. answer_one filled r q (a ∙ sym b) (g ∙ sym h);
    }

-- EVERY CALL is lawful
pub lawful : (c : Call) → Lawful on_none (deed c)
lawful (step_call S s) = step_lawful S s
lawful (look_up_call s t) = look_up_lawful s t
lawful (look_up_all_call s t out) = look_up_all_lawful s t out
