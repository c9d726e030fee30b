-- The bits of words put together are 0 exactly if all of the words are; and two words have no bit that differs exactly if they are one. Assumes nothing.
use mathlib.Core.Path.{◌≡◌, subst, sym, ◌∙◌}
use mathlib.Core.Logic.{⊎_elim}
use mathlib.Core.List.{List}
use Prim.Native.Nat.{ℕ, ◌+◌, ◌≤◌, ◌<◌}
use native.Mathlib.Omega.{arith}
use lib.Bits.{bit_or, bit_xor, or_add_and, or_zero_r, and_le_l, and_le_r, xor_add_and, xor_self}
use lib.Dec.{eqb}
use lib.ListN.{get_or}
use Rattle.table_words.proofs.Tab.{same}
use Rattle.settings.specs.Tells.{Tells}
use Rattle.settings.proofs.Answers.{tells_eqb}
use Rattle.promises.specs.Words.{bucket}
use Rattle.table_checks.specs.Chained.{Headed}

-- s tells, as the bits put together, of the words f from a to j: 0 exactly if they are
pub record Gathered (f : ℕ → ℕ) (a j s : ℕ) : Type 0 where
  pub from : a ≤ j
  pub each : s ≡ 0 → (x : ℕ) → a ≤ x → x < j → f x ≡ 0
  pub none : ((x : ℕ) → a ≤ x → x < j → f x ≡ 0) → s ≡ 0

pub gathered_none : (f : ℕ → ℕ) (a : ℕ) → Gathered f a a 0
gathered_none f a = record { from = omega arith; each = λ e x h g. absurd (omega arith); none = λ z. omega arith }

pub gathered_more : (f : ℕ → ℕ) (a j s y : ℕ) → y ≡ f j → Gathered f a j s → Gathered f a (j + 1) (bit_or s y)
gathered_more f a j s y ey p =
    record {
      from = omega (arith, p.from);
      each = λ e.
          let n : s ≡ 0 = omega (arith, e, or_add_and s y, and_le_r s y) in
          let z : f j ≡ 0 = omega (arith, e, ey, or_add_and s y, and_le_l s y) in
          λ x h g. ⊎_elim (λ q. subst (λ (u : ℕ). f u ≡ 0) (sym q) z) (λ q. p.each n x h (omega (arith, q))) (same x j);
      none = λ z.
          subst (λ (u : ℕ). bit_or s u ≡ 0) (sym (ey ∙ z j p.from (omega arith))) (or_zero_r s ∙ p.none (λ x h g. z x h (omega arith)));
    }

-- ---- words that differ
xor_one : (a b : ℕ) → bit_xor a b ≡ 0 → a ≡ b
xor_one a b e = omega (arith, e, xor_add_and a b, and_le_l a b, and_le_r a b)

one_xor : (a b : ℕ) → a ≡ b → bit_xor a b ≡ 0
one_xor a b e = subst (λ (u : ℕ). bit_xor a u ≡ 0) e (xor_self a)

-- the bits by which chain heads differ from a list
pub headed_all : (w last : List ℕ) (s : ℕ) → Gathered (λ x. bit_xor (bucket w x) (get_or last x 0)) 0 4096 s → Tells (eqb s 0) (Headed w last)
headed_all w last s p =
    tells_eqb s 0
    (λ e. record { heads = λ x h. xor_one (bucket w x) (get_or last x 0) (p.each e x (omega arith) h) })
    (λ z. p.none (λ x g h. one_xor (bucket w x) (get_or last x 0) (z.heads x h)))
