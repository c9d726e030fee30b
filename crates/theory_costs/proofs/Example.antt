-- The pairs alone are not exact: two costs of highest 1,000,000,000 whose sum is 1,000,000,000 everywhere. By computation. Assumes nothing.
use mathlib.Core.Path.{◌≡◌, refl}
use mathlib.Core.List.{[], ◌∷◌}
use Prim.Native.Nat.{zero, suc, ◌≤◌}
use native.Mathlib.Omega.{arith}
use lib.IntN.{pos, ◌+ℤ◌}
use Rattle.theory.specs.Costs.{Cost, amount}
use Rattle.theory_costs.specs.Extremes.{highest_of, lowest_of}
use Rattle.theory_costs.proofs.Range.{within_exactly}
use Rattle.promises.specs.Integers.{rise}
use Rattle.promises.specs.CostOperations.{smaller_of, larger_of, sum}
use Rattle.promises.specs.Range.{Within, cost_most}
use Rattle.promises.specs.CostSound.{across, extreme}

-- 1,000,000,000 at value 1, and at value 0, of one feature of size 2
unfoldable pub later : Cost
later [] = amount (pos 0)
later (zero ∷ t) = amount (pos 0)
later (suc v ∷ t) = amount (pos 1000000000)

unfoldable pub sooner : Cost
sooner [] = amount (pos 0)
sooner (zero ∷ t) = amount (pos 1000000000)
sooner (suc v ∷ t) = amount (pos 0)

-- the sum of the highest leaves the range, ..
pub pairs_leave : highest_of (2 ∷ []) later +ℤ highest_of (2 ∷ []) sooner ≡ pos 2000000000
unfolding extreme across larger_of later sooner
pairs_leave = refl

pub pairs_out : rise (highest_of (2 ∷ []) later +ℤ highest_of (2 ∷ []) sooner) ≤ cost_most → ⊥
pairs_out h = absurd (omega (arith, rw pairs_leave at h))

-- .. and the highest of the sum does not: it meets 1,000,000,000 at both settings
pub sum_stays : (highest_of (2 ∷ []) (sum later sooner) ≡ pos 1000000000) × (lowest_of (2 ∷ []) (sum later sooner) ≡ pos 1000000000)
unfolding extreme across larger_of smaller_of later sooner
sum_stays = (refl, refl)

pub sum_within : Within cost_most (2 ∷ []) (sum later sooner)
sum_within = (within_exactly cost_most (2 ∷ []) (omega arith, tt) (sum later sooner)).1 (rw sum_stays.1 (omega arith), rw sum_stays.0 (omega arith))
