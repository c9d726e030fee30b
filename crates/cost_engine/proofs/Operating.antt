-- The operators in words: products, and the smaller and the larger of 0 and an integer. Assumes nothing.
use mathlib.Core.Path.{◌≡◌, refl, ap, ◌∙◌}
use mathlib.Core.Bool.{true, false}
use Prim.Native.Nat.{ℕ, ◌-◌, ◌≤◌, ◌<◌, min, max}
use native.Mathlib.Nat.{zero-mul}
use native.Mathlib.Omega.{arith}
use lib.IntN.{ℤ, pos, neg_ℤ, ◌*ℤ◌, ◌+ℤ◌, ◌-ℤ◌}
use mir.Syntax.{w64}
use mir.Val.{SFits, to_z, of_z}
use mir.Facts.{to_z-of_z}
use Rattle.theory_costs.specs.Integers.{word_for}
use Rattle.theory_costs.proofs.Integers.{ℕ-eq, neg_rise, neg_fall, minus_rise, minus_fall}
use Rattle.theory_costs.proofs.Products.{mul_rise, mul_fall}
use Rattle.theory_costs.proofs.Words.{int_ℕ, fits_signed, signed_word, word_signed, fit_word}
use Rattle.cost_words.proofs.Packing.{int_zero}
use Rattle.cost_words.proofs.Summing.{further_min, further_max}
use Rattle.cost_engine.specs.Joint.{op_of}
use Rattle.cost_engine.specs.declared.operators.Operator.{Operator}
use Rattle.cost_engine.specs.declared.operators.Operator.TheVariants.{Scale}
use Rattle.promises.specs.Integers.{rise, fall, Fit, int}
use Rattle.promises.specs.CostOperations.{smaller_of, larger_of}
use Rattle.promises.specs.Range.{add_most}

-- ---- a word below the bias stands for a negative integer, any other for none
pub record Below (a : ℕ) : Type 0 where
  pub rises : rise (int a) ≡ 0
  pub falls : fall (int a) ≡ 2147483648 - a

pub record Above (a : ℕ) : Type 0 where
  pub rises : rise (int a) ≡ a - 2147483648
  pub falls : fall (int a) ≡ 0

pub below : (a : ℕ) → a < 2147483648 → Below a
below a h =
    let e : int a ≡ neg_ℤ (pos (2147483648 - a)) = ℕ-eq (int a) (neg_ℤ (pos (2147483648 - a))) (omega (arith, int_ℕ a, neg_rise (pos (2147483648 - a)), neg_fall (pos (2147483648 - a)))) in
    record { rises = ap rise e ∙ neg_rise (pos (2147483648 - a)); falls = ap fall e ∙ neg_fall (pos (2147483648 - a)) }

pub above : (a : ℕ) → 2147483648 ≤ a → Above a
above a h =
    let e : int a ≡ pos (a - 2147483648) = ℕ-eq (int a) (pos (a - 2147483648)) (omega (arith, int_ℕ a)) in
    record { rises = ap rise e; falls = ap fall e }

-- ---- products, in numbers of 64 bits
-- a word less the bias is its integer
word_back : (a : ℕ) → a < 4294967296 → (x : ℤ) → x ≡ pos a → to_z w64 (of_z w64 (to_z w64 (of_z w64 x) -ℤ pos 2147483648)) ≡ int a
word_back a h x e =
    let f : SFits w64 (pos a) = fits_signed (pos a) (omega arith) (omega arith) in
    let g : SFits w64 (pos a -ℤ pos 2147483648) =
    fits_signed _ (omega (arith, minus_rise (pos a) (pos 2147483648))) (omega (arith, minus_fall (pos a) (pos 2147483648))) in
    rw (e, to_z-of_z f, to_z-of_z g) (signed_word a)

module _ (a c : ℕ) (ha : a < 4294967296) (hc : c < 4294967296) (f : Fit add_most (int a *ℤ int c)) where
  -- the product with the bias on it is its word
  pub product_is : (x y : ℤ) → x ≡ pos a → y ≡ pos c
      → to_z w64 (of_z w64 (to_z w64 (of_z w64 (to_z w64 (of_z w64 (to_z w64 (of_z w64 x) -ℤ pos 2147483648)) *ℤ to_z w64 (of_z w64 (to_z w64 (of_z w64 y) -ℤ pos 2147483648)))) +ℤ pos 2147483648))
      ≡ pos (word_for (int a *ℤ int c))
  product_is x y ex ey =
      let t = f.top in
      let u = f.bottom in
      let g : SFits w64 (int a *ℤ int c) = fits_signed _ (omega arith) (omega arith) in
      let k : SFits w64 (pos (word_for (int a *ℤ int c))) = fits_signed _ (omega (arith, product_word)) (omega arith) in
      rw (word_back a ha x ex, word_back c hc y ey, to_z-of_z g, word_signed (int a *ℤ int c) (omega arith)) (to_z-of_z k)
    where
      product_word : word_for (int a *ℤ int c) < 4294967296
      product_word = (fit_word add_most (omega arith) (int a *ℤ int c) f).0

  pub product_fits : word_for (int a *ℤ int c) < 4294967296
  product_fits = (fit_word add_most (omega arith) (int a *ℤ int c) f).0

  pub product_says : int (word_for (int a *ℤ int c)) ≡ int a *ℤ int c
  product_says = (fit_word add_most (omega arith) (int a *ℤ int c) f).1

-- ---- the smaller and the larger of an integer and 0
pub smaller_zero : (d : ℕ) → int (min d 2147483648) ≡ smaller_of (pos 0) (int d)
smaller_zero d =
    let e : min d 2147483648 ≡ min 2147483648 d = omega arith in
    ap int e ∙ further_min false 2147483648 d refl ∙ ap (λ (z : ℤ). smaller_of z (int d)) int_zero

pub larger_zero : (d : ℕ) → int (max d 2147483648) ≡ larger_of (pos 0) (int d)
larger_zero d =
    let e : max d 2147483648 ≡ max 2147483648 d = omega arith in
    ap int e ∙ further_max true 2147483648 d refl ∙ ap (λ (z : ℤ). larger_of z (int d)) int_zero

-- ---- nothing added, nothing scaled
zero_times : (c : ℤ) → pos 0 *ℤ c ≡ pos 0
zero_times c = ℕ-eq (pos 0 *ℤ c) (pos 0) (omega (arith, mul_rise (pos 0) c, mul_fall (pos 0) c, zero-mul (rise c), zero-mul (fall c)))

pub scale_end : (o : Operator) (c : ℕ) → o ≡ Scale c → (d : ℤ) → op_of o (pos 0) d ≡ pos 0
scale_end o c e d = ap (λ (u : Operator). op_of u (pos 0) d) e ∙ zero_times (int c)
