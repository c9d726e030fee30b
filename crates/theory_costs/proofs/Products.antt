-- Products of integers: by their rise and fall, over sums, in order, and their bounds. Assumes nothing.
use mathlib.Core.Path.{◌≡◌, ap, ◌∙◌}
use Prim.Native.Nat.{ℕ, suc, ◌+◌, ◌-◌, ◌*◌, ◌≤◌}
use native.Mathlib.Nat.{mul-zero, zero-mul, zero-add, add-zero, add-mul, mul_comm}
use native.Mathlib.Omega.{arith}
use lib.IntN.{ℤ, pos, negsuc, ◌+ℤ◌, ◌*ℤ◌}
use lib.Signed.{◌≤ℤ◌}
use Rattle.theory_costs.proofs.Integers.{ℕ-eq, ℕ-le, le_ℕ, neg_fall, neg_rise, sum_ℕ}
use Rattle.promises.specs.Integers.{rise, fall, Fit}

pub mul_rise : (a b : ℤ) → rise (a *ℤ b) ≡ rise a * rise b + fall a * fall b
mul_rise (pos a) (pos b) = simp (zero-mul, add-zero)
mul_rise (pos a) (negsuc b) = neg_rise (pos (a * suc b)) ∙ simp (mul-zero, zero-mul, add-zero)
mul_rise (negsuc a) (pos b) = neg_rise (pos (suc a * b)) ∙ simp (mul-zero, zero-mul, add-zero)
mul_rise (negsuc a) (negsuc b) = simp (zero-mul, zero-add)

pub mul_fall : (a b : ℤ) → fall (a *ℤ b) ≡ rise a * fall b + fall a * rise b
mul_fall (pos a) (pos b) = simp (mul-zero, zero-mul, add-zero)
mul_fall (pos a) (negsuc b) = neg_fall (pos (a * suc b)) ∙ simp (zero-mul, add-zero)
mul_fall (negsuc a) (pos b) = neg_fall (pos (suc a * b)) ∙ simp (zero-mul, zero-add)
mul_fall (negsuc a) (negsuc b) = simp (mul-zero, zero-mul, add-zero)

pub mul_sum : (a b c : ℤ) → (a +ℤ b) *ℤ c ≡ a *ℤ c +ℤ b *ℤ c
mul_sum a b c =
    ℕ-eq ((a +ℤ b) *ℤ c) (a *ℤ c +ℤ b *ℤ c)
    (omega (arith, mul_rise (a +ℤ b) c, mul_fall (a +ℤ b) c, sum_ℕ (a *ℤ c) (b *ℤ c), mul_rise a c, mul_fall a c, mul_rise b c, mul_fall b c, side (rise c), side (fall c)))
  where
    side : (n : ℕ) → rise (a +ℤ b) * n + (fall a * n + fall b * n) ≡ fall (a +ℤ b) * n + (rise a * n + rise b * n)
    side n =
        omega (
          arith,
          ap (λ (m : ℕ). m * n) (sum_ℕ a b),
          add-mul (rise (a +ℤ b)) (fall a + fall b) n,
          add-mul (fall a) (fall b) n,
          add-mul (fall (a +ℤ b)) (rise a + rise b) n,
          add-mul (rise a) (rise b) n,
        )

mul_le : (x y c : ℕ) → x ≤ y → x * c ≤ y * c
mul_le x y c h =
    let e : y ≡ x + (y - x) = omega arith in
    let d : y * c ≡ x * c + (y - x) * c = ap (λ (z : ℕ). z * c) e ∙ add-mul x (y - x) c in
    omega arith

side_le : (n : ℕ) (a b : ℤ) → a ≤ℤ b → rise a * n + fall b * n ≤ rise b * n + fall a * n
side_le n a b h = omega (arith, mul_le (rise a + fall b) (rise b + fall a) n (le_ℕ h), add-mul (rise a) (fall b) n, add-mul (rise b) (fall a) n)

-- scaling keeps the order, or turns it
pub scale_le : (n : ℕ) (a b : ℤ) → a ≤ℤ b → (a *ℤ pos n) ≤ℤ (b *ℤ pos n)
scale_le n a b h =
    ℕ-le (a *ℤ pos n) (b *ℤ pos n)
    (omega (arith, side_le n a b h, mul_rise a (pos n), mul_fall a (pos n), mul_rise b (pos n), mul_fall b (pos n), mul-zero (rise a), mul-zero (fall a), mul-zero (rise b), mul-zero (fall b)))

pub scale_ge : (n : ℕ) (a b : ℤ) → a ≤ℤ b → (b *ℤ negsuc n) ≤ℤ (a *ℤ negsuc n)
scale_ge n a b h =
    ℕ-le (b *ℤ negsuc n) (a *ℤ negsuc n)
    (omega (
      arith,
      side_le (suc n) a b h,
      mul_rise a (negsuc n),
      mul_fall a (negsuc n),
      mul_rise b (negsuc n),
      mul_fall b (negsuc n),
      mul-zero (rise a),
      mul-zero (fall a),
      mul-zero (rise b),
      mul-zero (fall b),
    ))

mul_both : (x y c d : ℕ) → x ≤ y → c ≤ d → x * c ≤ y * d
mul_both x y c d h k = omega (arith, mul_le x y c h, mul_le c d y k, mul_comm y c, mul_comm y d)

-- a product of integers within ±A and ±C lies within ±AC
pub fit_product : (A C : ℕ) (x y : ℤ) → Fit A x → Fit C y → Fit (A * C) (x *ℤ y)
fit_product A C x y f g = record { top = top x y f g; bottom = bottom x y f g }
  where
    top : (x y : ℤ) → Fit A x → Fit C y → rise (x *ℤ y) ≤ A * C
    top (pos a) (pos c) f g = mul_both a A c C f.top g.top
    top (pos a) (negsuc c) f g = omega (arith, neg_rise (pos (a * suc c)))
    top (negsuc a) (pos c) f g = omega (arith, neg_rise (pos (suc a * c)))
    top (negsuc a) (negsuc c) f g = mul_both (suc a) A (suc c) C f.bottom g.bottom

    bottom : (x y : ℤ) → Fit A x → Fit C y → fall (x *ℤ y) ≤ A * C
    bottom (pos a) (pos c) f g = omega arith
    bottom (pos a) (negsuc c) f g = omega (arith, neg_fall (pos (a * suc c)), mul_both a A (suc c) C f.top g.bottom)
    bottom (negsuc a) (pos c) f g = omega (arith, neg_fall (pos (suc a * c)), mul_both (suc a) A c C f.bottom g.top)
    bottom (negsuc a) (negsuc c) f g = omega arith
