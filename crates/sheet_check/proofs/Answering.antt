-- The contract of the check is met at each return; what its answers say to every reader. Assumes nothing.
use mathlib.Core.Path.{◌≡◌}
use mathlib.Core.List.{List}
use Prim.Native.Nat.{ℕ}
use Rattle.settings.specs.Refusals.{Ends, taken}
use Rattle.settings.specs.declared.refusals.Refusal.TheVariants.{Newer, BadSheet}
use Rattle.settings.specs.Refusals.{Outcome}
use Rattle.settings.specs.Refusals.{Taken, Refused}
use Rattle.settings.proofs.Endings.{not_refused}
use Rattle.promises.specs.Sheet.{NewerSheet, GoodSheet}
use Rattle.promises.specs.SheetDeeds.{sheet_cases}

-- past the check the rest decides. Stated on what `Ends` computes to: R is what the refusals after the check compute to
pub read_on : {s : List ℕ} {q : Outcome} {R : Type 0} → Ends (sheet_cases s taken) Taken → GoodSheet s → R →
    (NewerSheet s → q ≡ Refused Newer) × ((NewerSheet s → ⊥) → ((GoodSheet s → ⊥) → q ≡ Refused BadSheet) × (((GoodSheet s → ⊥) → ⊥) → R))
read_on f g r = (λ n. not_refused (f.0 n), λ n. (λ b. absurd (b g), λ m. r))
