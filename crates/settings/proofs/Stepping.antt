-- The stepper's promise is met at each of its three returns. Assumes nothing.
use mathlib.Core.Path.{◌≡◌, refl, sym, ap, ◌∙◌, subst}
use mathlib.Core.Option as M
use mathlib.Core.Option.{some}
use Rattle.std.specs.Prelude.{Some, None, Ok, Err}
use mathlib.Core.List.{List, ◌++◌}
use Prim.Native.Nat.{ℕ, ◌-◌, ◌≤◌}
use native.Mathlib.Omega.{arith}
use lib.ListN.{length, take, drop, replicate, take-append-drop}
use Rattle.theory.specs.Settings.{zeros}
use Rattle.theory.proofs.Ranges.{valid_length, zeros_are}
use Rattle.settings.specs.Step.{values_of, setting_of, zero_setting, Inside, next_of, Gives, Steps}
use Rattle.settings.specs.Odometer.{Turns}
use Rattle.settings.specs.declared.refusals.Refusal.TheVariants.{BadArgument}
use Rattle.settings.specs.declared.steps.Setting.{Setting}
use Rattle.settings.specs.declared.steps.Stepped.{Stepped}
use Rattle.settings.specs.declared.steps.Stepped.TheVariants.{Next, Last}
use Rattle.settings.proofs.Endings.{stop, pass}
use Rattle.settings.proofs.Following.{next_long}
use Rattle.settings.proofs.Holding.{places_short, values_held, rest_held, zero_held}

pub step_refused : (S : List ℕ) (s : Setting) → (Inside S s → ⊥) → Steps S s (Err BadArgument)
step_refused S s n = record { ends = stop n; gives = tt }

module _ (S : List ℕ) (s : Setting) (i : Inside S s) where
  taken_step : (t : Stepped) → Gives S (next_of S (values_of s)) t → Steps S s (Ok t)
  taken_step t g = record { ends = pass (λ n. n i) refl; gives = g }

  long : length (values_of s) ≡ length S
  long = valid_length S (values_of s) i.valid

  short : length (values_of s) ≤ 16
  short = omega (arith, long, i.features.few)

  module _ (from to : List ℕ) (e : from ≡ (setting_of (values_of s)).values) where
    held : take (length S) from ≡ values_of s
    held = rw (e, ← long) (values_held (values_of s) short)

    past : drop (length S) from ≡ replicate (16 - length S) 0
    past = rw (e, ← long) (rest_held (values_of s) short)

    pub step_moved : Turns S from (Some to) → Steps S s (Ok (Next (record { count = s.count; values = to })))
    step_moved t = taken_step (Next (record { count = s.count; values = to })) (subst
        (λ (w : M.Option (List ℕ)). Gives S w (Next (record { count = s.count; values = to }))) (sym next) (ap Next whole))
      where
        next : next_of S (values_of s) ≡ some (take (length S) to)
        next = sym (ap (next_of S) held) ∙ t.0

        as_long : length (take (length S) to) ≡ length S
        as_long = next_long S (values_of s) (take (length S) to) next ∙ long

        few : length (take (length S) to) ≤ 16
        few = omega (arith, as_long, i.features.few)

        places : to ≡ (setting_of (take (length S) to)).values
        places = sym (take-append-drop (length S) to) ∙ ap (λ (r : List ℕ). take (length S) to ++ r) (t.1 ∙ past ∙ ap (λ (n : ℕ). replicate (16 - n) 0) (sym as_long))
            ∙ sym (places_short (take (length S) to) few)

        whole : record { count = s.count; values = to } ≡ setting_of (take (length S) to)
        whole = λ j. record { count = (i.counted ∙ sym as_long) j; values = places j }

  pub step_last : (from : List ℕ) → from ≡ (setting_of (values_of s)).values → Turns S from None → Steps S s (Ok (Last (zero_setting s.count)))
  step_last from e t = taken_step (Last (zero_setting s.count)) (subst (λ (w : M.Option (List ℕ)). Gives S w (Last (zero_setting s.count)))
      (sym (sym (ap (next_of S) (held from from e)) ∙ t)) (ap Last whole))
    where
      whole : zero_setting s.count ≡ setting_of (zeros S)
      whole = ap zero_setting i.counted ∙ zero_held (length S) i.features.few ∙ ap setting_of (sym (zeros_are S))
