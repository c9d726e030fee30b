-- DECIDED FOR C: two outcomes that keep the promise of a call for C are equal: the number, the words out, the bytes, and every word of the tables. Assumes nothing.
use mathlib.Core.Path.{◌≡◌, sym, ap, ◌∙◌}
use mathlib.Core.List.{List}
use Prim.Native.Nat.{ℕ}
use Rattle.settings.specs.Step.{Steps}
use Rattle.settings.specs.declared.steps.Setting.{Setting}
use Rattle.settings.specs.declared.steps.Stepped.{Stepped}
use Rattle.std.specs.Prelude.{Option, Result}
use Rattle.settings.specs.declared.refusals.Refusal.{Refusal}
use Rattle.promises.specs.Deed.{Meets}
use Rattle.promises.specs.ForC.{Heard, Hears}
use Rattle.promises.specs.BothDeeds.{both}
use Rattle.demands.specs.Run.{Part}
use Rattle.demands.specs.RuleCalls as R
use Rattle.demands.specs.CostCalls as C
use Rattle.demands.specs.BothCalls as B
use Rattle.demands.specs.ByteDeeds.{step_on}
use Rattle.demands.specs.ByteCalls as Y
use Rattle.demands.specs.ForC.{rule_tell, cost_tell, both_tell, byte_tell}
use Rattle.demands.proofs.Bytes.{step_meets}
use Rattle.demands.proofs.Demands.{Kept, decided}
use Rattle.demands.proofs.Parts.{rules_kept, costs_kept, both_kept, bytes_kept}

-- what C hears is what is told of the answer
told : {A : Type 0} {P : A → Type 0} {tell : A → Heard} {h : Heard} (x : Hears P tell h) → h ≡ tell x.answer
told x = λ i. record { number = x.number i; out = x.out i; bytes = x.bytes i }

hears_one : {P : Part} → Kept P → (c : P.Call) (tell : (P.deed c).Result → Heard) (w a b : P.loan.Words) (h k : Heard) →
    Hears (Meets (P.deed c) w a) tell h → Hears (Meets (P.deed c) w b) tell k → (h ≡ k) × (a ≡ b)
hears_one K c tell w a b h k x y = let d = decided K c w a b x.answer y.answer x.keeps y.keeps in (told x ∙ ap tell d.0 ∙ sym (told y), d.1)

-- the stepper for C keeps the promise of its deed
pub steps_for_c : {S : List ℕ} {s : Setting} {tell : Result Stepped Refusal → Heard} {h : Heard} → Hears (Steps S s) tell h → Hears (Meets (step_on S s) tt tt) tell h
steps_for_c {S} {s} x = record { answer = x.answer; keeps = step_meets S s x.answer x.keeps; number = x.number; out = x.out; bytes = x.bytes }

-- THEOREM, of every call for C
module _ (out : List ℕ) (h k : Heard) where
  pub rules_decided : (c : R.Call) (w a b : List ℕ) → Hears (Meets (R.deed c) w a) (rule_tell c out) h → Hears (Meets (R.deed c) w b) (rule_tell c out) k → (h ≡ k) × (a ≡ b)
  rules_decided c w a b x y = hears_one rules_kept c (rule_tell c out) w a b h k x y

  pub costs_decided : (c : C.Call) (w a b : List ℕ) → Hears (Meets (C.deed c) w a) (cost_tell c out) h → Hears (Meets (C.deed c) w b) (cost_tell c out) k → (h ≡ k) × (a ≡ b)
  costs_decided c w a b x y = hears_one costs_kept c (cost_tell c out) w a b h k x y

  pub both_decided_lem : (c : B.Call) (w a b : both.Words) → Hears (Meets (B.deed c) w a) (both_tell c out) h → Hears (Meets (B.deed c) w b) (both_tell c out) k → (h ≡ k) × (a ≡ b)
  both_decided_lem c w a b x y = hears_one both_kept c (both_tell c out) w a b h k x y

  pub bytes_decided_lem : (c : Y.Call) → Hears (Meets (Y.deed c) tt tt) (byte_tell c out) h → Hears (Meets (Y.deed c) tt tt) (byte_tell c out) k → h ≡ k
  bytes_decided_lem c x y = (hears_one bytes_kept c (byte_tell c out) tt tt tt h k x y).0
