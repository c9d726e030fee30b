-- What is kept for a target, and the sums along the branches of a body in turn. Assumes nothing.
use Rattle.std.specs.Prelude.{Some, None}
use mathlib.Core.Path.{◌≡◌, sym, ap, subst, ◌∙◌}
use mathlib.Core.Bool.{Bool, true, false}
use mathlib.Core.List.{List}
use Prim.Native.Nat.{ℕ, zero, suc, ◌+◌, ◌<◌}
use native.Mathlib.Numerals.{add-one}
use native.Mathlib.Omega.{arith}
use lib.IntN.{ℤ, ◌+ℤ◌}
use Rattle.theory_costs.specs.Extremes.{kept_at}
use Rattle.theory_costs.proofs.Extremes.{across_one, across_more}
use Rattle.table_words.specs.Words.{listed}
use Rattle.cost_words.specs.Sides.{end_of, Keeps, Wider, arm_sum, ArmSums, Sides}
use Rattle.cost_words.specs.Sums.{Stands}
use Rattle.cost_words.specs.declared.sides.Span.{Span}
use Rattle.cost_words.proofs.Packing.{target_end, int_zero}
use Rattle.promises.specs.Integers.{Fit, int}
use Rattle.promises.specs.Range.{add_most}
use Rattle.promises.specs.CostSound.{across, kept, side_of}
use Rattle.promises.specs.CostWords.{target, goes, added}

-- what holds of both words
both : (P : Bool → ℕ → Type 0) (a b : ℕ) → P false a → P true b → (up : Bool) → P up (end_of up a b)
both P a b p q true = q
both P a b p q false = p

-- ---- a target
pub keeps_end : (w : List ℕ) (x : ℕ) → x ≡ 0 → Keeps w x 2147483648 2147483648
keeps_end w x e = record { keeps = both (λ up r. int r ≡ kept_at (kept up w) (target x)) 2147483648 2147483648 (none false) (none true) }
  where
    none : (up : Bool) → int 2147483648 ≡ kept_at (kept up w) (target x)
    none up = int_zero ∙ sym (ap (kept_at (kept up w)) (target_end x e))

module _ (w l : List ℕ) where
  -- ---- the sums along branch v, from the words a and b that are kept for its target word x
  module _ (v x a b : ℕ) (e : x ≡ goes (listed l) v) (k : Keeps w x a b) where
    arm_is : (up : Bool) → int (added (listed l) v) +ℤ int (end_of up a b) ≡ arm_sum up w l v
    arm_is up = ap (λ (z : ℤ). int (added (listed l) v) +ℤ z) (k.keeps up ∙ ap (λ (y : ℕ). kept_at (kept up w) (target y)) e)

    -- one is lost, ..
    pub low_lost : Stands (int (added (listed l) v) +ℤ int a) None → ArmSums w l v None
    low_lost s f = s (subst (Fit add_most) (sym (arm_is false)) (f false))

    pub high_lost : Stands (int (added (listed l) v) +ℤ int b) None → ArmSums w l v None
    high_lost s f = s (subst (Fit add_most) (sym (arm_is true)) (f true))

  -- ---- branches in turn: the furthest of the first ones, of any words, ..
  pub side_one : (a : Span) → ((up : Bool) → int (end_of up a.low a.high) ≡ arm_sum up w l 0) → (up : Bool) → int (end_of up a.low a.high) ≡ across (side_of up) (arm_sum up w l) 1
  side_one a s up = s up ∙ sym (across_one (side_of up) (arm_sum up w l))

  pub side_more : (v : ℕ) (a b c : Span) → 0 < v → ((up : Bool) → int (end_of up a.low a.high) ≡ across (side_of up) (arm_sum up w l) v)
      → ((up : Bool) → int (end_of up b.low b.high) ≡ arm_sum up w l v) → Wider a.low a.high b.low b.high c.low c.high
      → (up : Bool) → int (end_of up c.low c.high) ≡ across (side_of up) (arm_sum up w l) (v + 1)
  side_more zero a b c z q s y up = absurd (omega arith)
  side_more (suc v) a b c z q s y up =
      y.wider up ∙ (λ j. side_of up (q up j) (s up j)) ∙ sym (ap (across (side_of up) (arm_sum up w l)) (add-one (suc v)) ∙ across_more (side_of up) (arm_sum up w l) v)

  -- .. and of words that are there
  pub sides_one : (a : Span) → ArmSums w l 0 (Some a) → Sides w l 1 (Some a)
  sides_one a s = (s.0, side_one a s.1)

  pub sides_more : (v : ℕ) (a b c : Span) → 0 < v → Sides w l v (Some a) → ArmSums w l v (Some b) → Wider a.low a.high b.low b.high c.low c.high → Sides w l (v + 1) (Some c)
  sides_more v a b c z q s y = (y.some q.0 s.0, side_more v a b c z q.1 s.1 y)

  -- one is lost, ..
  pub side_lost : (m v : ℕ) → v < m → ArmSums w l v None → Sides w l m None
  side_lost m v h s f = s (λ up. f up v h)
