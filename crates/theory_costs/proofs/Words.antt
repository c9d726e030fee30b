-- Words that stand for integers: sums, differences and order on the words, and the way to and from signed numbers. Assumes nothing.
use mathlib.Core.Path.{◌≡◌, ap}
use mathlib.Core.Bool.{true, false}
use Prim.Native.Nat.{ℕ, ◌+◌, ◌-◌, ◌^◌, ◌≤◌, ◌<◌}
use native.Mathlib.Omega.{arith}
use lib.IntN.{ℤ, pos, negsuc, ◌+ℤ◌, ◌-ℤ◌}
use lib.Signed.{lt_z}
use mir.Syntax.{w64}
use mir.Val.{SFits, to_z}
use mir.Facts.{to_z-of_z}
use Rattle.theory_costs.specs.Integers.{word_for}
use Rattle.theory_costs.proofs.Integers.{rise_near, fall_near, sub_ℕ_lem, sum_ℕ, minus_ℕ, ℕ-eq, ℕ-le, ℕ-lt, lt_test, le_test}
use Rattle.promises.specs.Integers.{rise, fall, Fit, bias, int}
use Rattle.promises.specs.CostOperations.{larger_of, smaller_of}

-- what turns an integer of a word into facts for omega
pub int_ℕ : (w : ℕ) → rise (int w) + bias ≡ fall (int w) + w
unfolding int
int_ℕ w = sub_ℕ_lem w bias

pub int_one : (v w : ℕ) → int v ≡ int w → v ≡ w
int_one v w e = omega (arith, int_ℕ v, int_ℕ w, ap rise e, ap fall e)

pub int_lt : (v w : ℕ) → v < w → lt_z (int v) (int w) ≡ true
int_lt v w h = lt_test (int v) (int w) (ℕ-lt (int v) (int w) (omega (arith, int_ℕ v, int_ℕ w)))

pub int_le : (v w : ℕ) → w ≤ v → lt_z (int v) (int w) ≡ false
int_le v w h = le_test (int v) (int w) (ℕ-le (int w) (int v) (omega (arith, int_ℕ v, int_ℕ w)))

-- the larger, the smaller of two by their words
pub larger_second : (v w : ℕ) → v < w → larger_of (int v) (int w) ≡ int w
unfolding larger_of
larger_second v w h = rw (int_lt v w h)

pub larger_first : (v w : ℕ) → w ≤ v → larger_of (int v) (int w) ≡ int v
unfolding larger_of
larger_first v w h = rw (int_le v w h)

pub smaller_second : (v w : ℕ) → w < v → smaller_of (int v) (int w) ≡ int w
unfolding smaller_of
smaller_second v w h = rw (int_lt w v h)

pub smaller_first : (v w : ℕ) → v ≤ w → smaller_of (int v) (int w) ≡ int v
unfolding smaller_of
smaller_first v w h = rw (int_le w v h)

-- the words of the integers within ±B
pub words_fit : (B w : ℕ) → bias ≤ w + B → w ≤ bias + B → Fit B (int w)
words_fit B w l h = record { top = rise_near (int w) (omega (arith, int_ℕ w)); bottom = fall_near (int w) (omega (arith, int_ℕ w)) }

pub fit_words : {B : ℕ} (w : ℕ) → Fit B (int w) → (bias ≤ w + B) × (w ≤ bias + B)
fit_words w f = let t = f.top in let u = f.bottom in (omega (arith, int_ℕ w), omega (arith, int_ℕ w))

-- every integer within ±B has a word, where B is less than the bias
pub int_word : (z : ℤ) → fall z ≤ bias → int (word_for z) ≡ z
int_word z h = ℕ-eq (int (word_for z)) z (omega (arith, int_ℕ (word_for z)))

pub fit_word : (B : ℕ) → B < bias → (z : ℤ) → Fit B z → (word_for z < 4294967296) × (int (word_for z) ≡ z)
fit_word B b z f = let t = f.top in let u = f.bottom in (omega arith, int_word z (omega arith))

-- ---- sums and differences
-- a − b is a word
pub record Room (a b : ℕ) : Type 0 where
  pub least : b ≤ a
  pub most : a - b < 4294967296

pub sum_room : (a b : ℕ) → Fit 2000000000 (int a +ℤ int b) → Room (a + b) 2147483648
sum_room a b f =
    let t = f.top in let u = f.bottom in
    record {
      least = omega (arith, int_ℕ a, int_ℕ b, sum_ℕ (int a) (int b));
      most = omega (arith, int_ℕ a, int_ℕ b, sum_ℕ (int a) (int b));
    }

-- two words' sum tells how far the sum of their integers lies from 0
pub words_sum : (a b : ℕ) → rise (int a +ℤ int b) + 4294967296 ≡ fall (int a +ℤ int b) + (a + b)
words_sum a b = omega (arith, int_ℕ a, int_ℕ b, sum_ℕ (int a) (int b))

pub int_sum : (a b s : ℕ) → s + 2147483648 ≡ a + b → int s ≡ int a +ℤ int b
int_sum a b s e = ℕ-eq (int s) (int a +ℤ int b) (omega (arith, int_ℕ a, int_ℕ b, int_ℕ s, sum_ℕ (int a) (int b)))

pub minus_room : (a b : ℕ) → Fit 2000000000 (int a -ℤ int b) → Room (a + 2147483648) b
minus_room a b f =
    let t = f.top in let u = f.bottom in
    record {
      least = omega (arith, int_ℕ a, int_ℕ b, minus_ℕ (int a) (int b));
      most = omega (arith, int_ℕ a, int_ℕ b, minus_ℕ (int a) (int b));
    }

pub int_minus : (a b s : ℕ) → s + b ≡ a + 2147483648 → int s ≡ int a -ℤ int b
int_minus a b s e = ℕ-eq (int s) (int a -ℤ int b) (omega (arith, int_ℕ a, int_ℕ b, int_ℕ s, minus_ℕ (int a) (int b)))

-- the difference of two bases one value on: d and what the second's branch adds, less what the first's adds
pub more_room : (d x y : ℕ) → Fit 2000000000 ((int d +ℤ int x) -ℤ int y) → Room (d + x) y
more_room d x y f =
    let t = f.top in let u = f.bottom in
    record {
      least = omega (arith, int_ℕ d, int_ℕ x, int_ℕ y, sum_ℕ (int d) (int x), minus_ℕ (int d +ℤ int x) (int y));
      most = omega (arith, int_ℕ d, int_ℕ x, int_ℕ y, sum_ℕ (int d) (int x), minus_ℕ (int d +ℤ int x) (int y));
    }

pub int_more : (d x y s : ℕ) → s + y ≡ d + x → int s ≡ (int d +ℤ int x) -ℤ int y
int_more d x y s e =
    ℕ-eq (int s) ((int d +ℤ int x) -ℤ int y) (omega (arith, int_ℕ d, int_ℕ x, int_ℕ y, int_ℕ s, sum_ℕ (int d) (int x), minus_ℕ (int d +ℤ int x) (int y)))

-- ---- signed numbers of 64 bits, at the public edge
pub fits_signed : (a : ℤ) → rise a < 2 ^ 63 → fall a < 2 ^ 63 → SFits w64 a
fits_signed (pos a) h k = record { sfits = h }
fits_signed (negsuc a) h k = record { sfits = omega arith }

pub signed_small : (n : ℕ) → n < 2 ^ 63 → to_z w64 n ≡ pos n
signed_small n h = to_z-of_z {w = w64} {z = pos n} (record { sfits = h })

pub word_signed : (z : ℤ) → fall z ≤ bias → z +ℤ pos bias ≡ pos (word_for z)
word_signed z h = ℕ-eq (z +ℤ pos bias) (pos (word_for z)) (omega (arith, sum_ℕ z (pos bias)))

pub signed_word : (w : ℕ) → pos w -ℤ pos bias ≡ int w
signed_word w = ℕ-eq (pos w -ℤ pos bias) (int w) (omega (arith, minus_ℕ (pos w) (pos bias), int_ℕ w))
