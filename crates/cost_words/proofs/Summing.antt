-- Words of sums and differences, and of the further of two. Assumes nothing.
use Rattle.std.specs.Prelude.{Some, None}
use mathlib.Core.Path.{◌≡◌, sym, ap, ◌∙◌}
use mathlib.Core.Logic.{⊎_elim}
use mathlib.Core.Bool.{Bool, true, false}
use Prim.Native.Nat.{ℕ, ◌+◌, ◌≤◌, ◌<◌, min, max}
use native.Mathlib.Omega.{arith}
use lib.IntN.{ℤ, ◌+ℤ◌, ◌-ℤ◌}
use lib.Signed.{◌≤ℤ◌}
use Rattle.theory_costs.proofs.Extremes.{Above, Way, low, high}
use Rattle.theory_costs.proofs.Integers.{minus_ℕ}
use Rattle.theory_costs.proofs.Words.{int_ℕ, larger_first, larger_second, smaller_first, smaller_second, words_sum, int_sum, int_minus}
use Rattle.table_words.proofs.Tab.{split}
use Rattle.cost_words.specs.Sums.{Stands}
use Rattle.promises.specs.Integers.{int}
use Rattle.promises.specs.CostSound.{side_of}

-- ---- sums
pub sum_lost : (a b : ℕ) → (2294967296 ≤ a + b → a + b ≤ 6294967296 → ⊥) → Stands (int a +ℤ int b) None
sum_lost a b n f = let t = f.top in let u = f.bottom in n (omega (arith, words_sum a b)) (omega (arith, words_sum a b))

pub sum_stands : (a b r : ℕ) → 0 < r → r + 2147483648 ≡ a + b → Stands (int a +ℤ int b) (Some r)
sum_stands a b r h e = (h, int_sum a b r e)

-- ---- differences
pub minus_lost : (a b : ℕ) → (b ≤ a + 2000000000 → a ≤ b + 2000000000 → ⊥) → Stands (int a -ℤ int b) None
minus_lost a b n f =
    let t = f.top in
    let u = f.bottom in
    n (omega (arith, int_ℕ a, int_ℕ b, minus_ℕ (int a) (int b))) (omega (arith, int_ℕ a, int_ℕ b, minus_ℕ (int a) (int b)))

pub minus_stands : (a b r : ℕ) → 0 < r → r + b ≡ a + 2147483648 → Stands (int a -ℤ int b) (Some r)
minus_stands a b r h e = (h, int_minus a b r e)

-- ---- the further of two
pub further_max : (up : Bool) (a b : ℕ) → up ≡ true → int (max a b) ≡ side_of up (int a) (int b)
further_max up a b e = rw e (⊎_elim
    (λ h. ap int (let q : max a b ≡ b = omega arith in q) ∙ sym (larger_second a b h))
    (λ h. ap int (let q : max a b ≡ a = omega arith in q) ∙ sym (larger_first a b h)) (split a b))

pub further_min : (up : Bool) (a b : ℕ) → up ≡ false → int (min a b) ≡ side_of up (int a) (int b)
further_min up a b e = rw e (⊎_elim
    (λ h. ap int (let q : min a b ≡ b = omega arith in q) ∙ sym (smaller_second a b h))
    (λ h. ap int (let q : min a b ≡ a = omega arith in q) ∙ sym (smaller_first a b h)) (split b a))

-- the side as an order
abbrev pub OrderOf : Bool → ℤ → ℤ → Type 0
OrderOf true = Above
OrderOf false = ◌≤ℤ◌

pub way : (up : Bool) → Way (side_of up) (OrderOf up)
way true = high
way false = low
