-- Signed numbers turned into words. Assumes nothing.
use mathlib.Core.Path.{◌≡◌}
use Prim.Native.Nat.{◌^◌, ◌<◌}
use native.Mathlib.Omega.{arith}
use lib.IntN.{ℤ, pos, ◌+ℤ◌}
use lib.Signed.{mag}
use mir.Syntax.{w64}
use mir.Val.{SFits, to_z, of_z}
use mir.Facts.{to_z-of_z}
use Rattle.theory_costs.specs.Integers.{word_for}
use Rattle.theory_costs.proofs.Words.{fits_signed, word_signed}
use Rattle.promises.specs.Integers.{Fit, bias}
use Rattle.promises.specs.Range.{cost_most}

-- ---- with the bias on it a number is its word
module _ {z : ℤ} (f : Fit cost_most z) where
  biased : z +ℤ pos bias ≡ pos (word_for z)
  biased = word_signed z (omega (arith, f.bottom))

  biased_fits : SFits w64 (pos (word_for z))
  biased_fits = record { sfits = omega (arith, f.top) }

  pub biased_word : SFits w64 z → to_z w64 (of_z w64 (to_z w64 (of_z w64 z) +ℤ pos bias)) ≡ pos (word_for z)
  biased_word s = rw (to_z-of_z s, biased) (to_z-of_z biased_fits)

-- a number in range, and one that was read from a list, comes through as it is
pub amount_back : (z : ℤ) → Fit cost_most z → to_z w64 (of_z w64 z) ≡ z
amount_back z f = to_z-of_z {w = w64} {z = z} (fits_signed z (omega (arith, f.top)) (omega (arith, f.bottom)))

pub amount_read : (z : ℤ) → mag z < 2 ^ 63 → to_z w64 (of_z w64 z) ≡ z
amount_read z h = to_z-of_z {w = w64} {z = z} (record { sfits = h })
