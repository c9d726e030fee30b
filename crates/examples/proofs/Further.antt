-- Examples beside the starred ones: the lowest and the highest of P + Q, and constants at the end of the range. Assumes nothing.
use mathlib.Core.Path.{◌≡◌, refl}
use mathlib.Core.List.{[], ◌∷◌}
use native.Mathlib.Omega.{arith}
use lib.IntN.{pos}
use Rattle.theory_costs.specs.Extremes.{highest_of, lowest_of}
use Rattle.examples.specs.Examples.{sizes, P, Q, PAndQ}
use Rattle.promises.specs.CostSound.{extreme}
use Rattle.promises.specs.CostOperations.{constant, larger_of, smaller_of, sum}
use Rattle.promises.specs.Range.{LeavesRange, Within, cost_most}

lowest_and_highest : (lowest_of sizes PAndQ ≡ pos 1) × (highest_of sizes PAndQ ≡ pos 15)
unfolding extreme smaller_of larger_of sizes P Q
lowest_and_highest = (refl, refl)

-- constant 1,000,000,000 plus 1 leaves the range, plus 0 stays in it
plus_one : LeavesRange sizes (sum (constant (pos 1000000000)) (constant (pos 1)))
unfolding sizes
plus_one = record { setting = 0 ∷ 0 ∷ []; valid = (omega arith, (omega arith, tt)); out = λ h. absurd (omega (arith, h.top)) }

plus_zero : Within cost_most sizes (sum (constant (pos 1000000000)) (constant (pos 0)))
plus_zero = record { fits = λ s x. record { top = omega arith; bottom = omega arith } }
