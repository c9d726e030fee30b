-- What the look up of no values tells of a sheet. Assumes nothing.
use mathlib.Core.Path.{◌≡◌, refl}
use mathlib.Core.List.{List, [], ◌∷◌}
use Prim.Native.Nat.{ℕ, ◌≤◌}
use native.Mathlib.Omega.{arith}
use lib.ListN.{length}
use Rattle.theory.specs.Settings.{Valid}
use Rattle.settings.specs.Refusals.{Ends, taken}
use Rattle.settings.specs.declared.refusals.Refusal.TheVariants.{Newer, BadSheet}
use Rattle.settings.specs.Refusals.{Taken, Refused}
use Rattle.promises.specs.Sheet.{sheet_sizes, GoodSheet}
use Rattle.promises.specs.Deed.{Meets}
use Rattle.promises.specs.SheetDeeds.{sheet_cases, look_up_in}
use Rattle.promises.specs.ForC.{heard, Hears, tell_returned}
use Rattle.table_calls.proofs.Like.{clear, rest}
use Rattle.sheets.proofs.Stable.{good_stable}
use Rattle.sheets.proofs.Theorems.{returns_newer, returns_bad, returns_argument}

-- no feature list has a setting of no values
no_values : (S : List ℕ) → 1 ≤ length S → Valid S [] → ⊥
no_values [] h v = omega (arith, h)
no_values (n ∷ ns) h v = v

-- ---- the look up of no values returned r
module _ {s : List ℕ} {r : ℕ} (a : Hears (Meets (look_up_in s []) tt tt) (tell_returned []) (heard r [] [])) where
  returns_good : ((GoodSheet s → ⊥) → ⊥) → r ≡ 65542
  returns_good g = let x = good_stable g in returns_argument a x (no_values (sheet_sizes s) x.ordered.head.list.some)

  pub tells_newer : r ≡ 65539 → Ends (sheet_cases s taken) (Refused Newer)
  tells_newer e = (λ n. refl, λ n. (λ b. absurd (omega (arith, e, returns_bad a n b)), λ g. absurd (omega (arith, e, returns_good g))))

  pub tells_bad : r ≡ 65540 → Ends (sheet_cases s taken) (Refused BadSheet)
  tells_bad e = (λ n. absurd (omega (arith, e, returns_newer a n)), λ n. (λ b. refl, λ g. absurd (omega (arith, e, returns_good g))))

  pub tells_good : (r ≡ 65539 → ⊥) → (r ≡ 65540 → ⊥) → Ends (sheet_cases s taken) Taken
  tells_good n b = (λ x. absurd (n (returns_newer a x)), λ x. (λ y. absurd (b (returns_bad a x y)), λ g. refl))

-- a sheet that is not refused is good
pub good_taken : {s : List ℕ} → Ends (sheet_cases s taken) Taken → GoodSheet s
good_taken t = good_stable (clear (rest t))
