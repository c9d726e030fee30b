-- Settings one after the other in bytes, and their numbers in words, as the code goes over them: row by row. Assumes nothing.
use mathlib.Core.Path.{◌≡◌, sym, ap, subst, ◌∙◌}
use mathlib.Core.List.{List}
use Prim.Native.Nat.{ℕ, ◌+◌, ◌*◌, ◌-◌, ◌≤◌, ◌<◌}
use native.Mathlib.Nat.{zero-add, zero-mul, suc-mul, mul-le-mul_right}
use native.Mathlib.Numerals.{add-one}
use native.Mathlib.Omega.{arith}
use borrow.Author.Count.{below_none, below_more}
use lib.Dec.{eqb}
use lib.ListN.{length, get_or, take, drop, set}
use lib.Seq.{get_or-set_same, get_or-set_other, ext_get_or}
use Rattle.theory.specs.Settings.{Valid}
use Rattle.settings.specs.Tells.{Tells}
use Rattle.settings.proofs.Answers.{tells_eqb}
use Rattle.promises.specs.Sheet.{row}
use Rattle.promises.specs.SheetDeeds.{row_of, SettingRows}
use Rattle.sheet_bytes.proofs.Framing.{row_length, row_at}

-- ---- where rows begin and end
row_inside : {i m : ℕ} (n : ℕ) → i < m → i * n + n ≤ m * n
row_inside {i} {m} n h = subst (λ (x : ℕ). x ≤ m * n) (suc-mul i n) (mul-le-mul_right n h)

pub row_next : (i m : ℕ) {n p : ℕ} → p ≡ i * m → n ≡ m → p + n ≡ (i + 1) * m
row_next i m e q = (λ k. e k + q k) ∙ sym (rw add-one (suc-mul i m))

-- what the code cuts out is the row
pub row_cut : (t : List ℕ) (i : ℕ) {m n p : ℕ} → p ≡ i * m → n ≡ m → take (p + n - p) (drop p t) ≡ row_of m t i
row_cut t i {m} {n} {p} e q = ap (λ (k : ℕ). take k (drop p t)) (let h : p + n - p ≡ m = omega (arith, q) in h) ∙ ap (λ (k : ℕ). take m (drop k t)) e

-- of rows that are settings
module _ {S t : List ℕ} {m i n p : ℕ} (r : SettingRows S m t) (h : i < m) (e : p ≡ i * length S) (q : n ≡ length S) where
  pub row_room : p + n ≤ length t
  row_room = below (length t) p n (i * length S) (m * length S) (length S) (row_inside (length S) h) e q r.long
    where
      below : (l p n a b k : ℕ) → a + k ≤ b → p ≡ a → n ≡ k → l ≡ b → p + n ≤ l
      below l p n a b k x y z w = omega (arith, x, y, z, w)

  pub row_valid : Valid S (take (p + n - p) (drop p t))
  row_valid = subst (Valid S) (sym (row_cut t i e q)) (r.each i h)

-- ---- the test
-- the first i rows are settings, and end at p
pub record Tested (S t : List ℕ) (i p : ℕ) : Type 0 where
  pub here : p ≡ i * length S
  pub inside : p ≤ length t
  pub each : (j : ℕ) → j < i → Valid S (row_of (length S) t j)

pub tested_none : (S t : List ℕ) → Tested S t 0 0
tested_none S t = record { here = sym (zero-mul (length S)); inside = omega arith; each = below_none _ }

module _ {S t : List ℕ} {i p : ℕ} (d : Tested S t i p) where
  module _ (n : ℕ) (e : n ≡ length S) where
    pub tested_more : p + n ≤ length t → Valid S (take (p + n - p) (drop p t)) → Tested S t (i + 1) (p + n)
    tested_more l v =
        record { here = row_next i (length S) d.here e; inside = l; each = below_more (λ j. Valid S (row_of (length S) t j)) i d.each (subst (Valid S) (row_cut t i d.here e) v) }

    module _ {m : ℕ} (h : i < m) where
      -- a row that is not there, or no setting
      pub rows_short : length t - p < n → SettingRows S m t → ⊥
      rows_short l r = omega (arith, l, row_room r h d.here e)

      pub rows_bad : (Valid S (take (p + n - p) (drop p t)) → ⊥) → SettingRows S m t → ⊥
      rows_bad b r = b (row_valid r h d.here e)

  -- all were tested
  pub rows_tell : {m : ℕ} → i ≡ m → Tells (eqb p (length t)) (SettingRows S m t)
  rows_tell {m} q =
      let here : p ≡ m * length S = d.here ∙ ap (λ (k : ℕ). k * length S) q in
      tells_eqb p (length t) (λ e. record { long = sym e ∙ here; each = λ j h. d.each j (omega (arith, h, q)) }) (λ r. here ∙ sym r.long)

-- ---- the numbers
-- a word of a row
pub row_word : (f : ℕ → ℕ) (m j : ℕ) → j < m → get_or (row 0 m f) j 0 ≡ f j
row_word f m j h = row_at 0 m f j 0 h ∙ ap f (zero-add j)

-- the words below i are those that f gives
pub record Filled (f : ℕ → ℕ) (i : ℕ) (o : List ℕ) : Type 0 where
  pub each : (j : ℕ) → j < i → get_or o j 0 ≡ f j

pub filled_more : {f : ℕ → ℕ} {i : ℕ} {o : List ℕ} → Filled f i o → i < length o → (x : ℕ) → x ≡ f i → Filled f (i + 1) (set o i x)
filled_more {f} {i} {o} d l x e =
    record { each = below_more (λ j. get_or (set o i x) j 0 ≡ f j) i (λ j h. get_or-set_other o i j x 0 (λ q. omega (arith, h, q)) ∙ d.each j h) (get_or-set_same o i x 0 l ∙ e) }

-- all of them
pub filled_all : {f : ℕ → ℕ} {i m : ℕ} {o : List ℕ} → Filled f i o → length o ≡ m → i ≡ m → o ≡ row 0 m f
filled_all {f} {i} {m} {o} d l e =
    ext_get_or 0 o (row 0 m f) (l ∙ sym (row_length 0 m f)) (λ j h. d.each j (omega (arith, h, l, e)) ∙ sym (row_word f m j (omega (arith, h, l))))
