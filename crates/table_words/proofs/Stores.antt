-- What stands in a list after a run of stores, in three ranges: before it, in it, after it. Assumes nothing.
use mathlib.Core.Path.{◌≡◌, refl, ap, ◌∙◌}
use mathlib.Core.List.{List, [], ◌∷◌}
use Prim.Native.Nat.{ℕ, zero, suc, ◌+◌, ◌-◌, ◌≤◌, ◌<◌}
use native.Mathlib.Nat.{add-zero}
use native.Mathlib.Decide.{dec_lt}
use native.Mathlib.Omega.{arith}
use lib.ListN.{length, get_or, set, take, drop, replicate, length-set, length-drop, length-replicate, get_or-replicate}
use lib.Seq.{sets, length-take-le, get_or-set_same, get_or-set_other}
use borrow.Rule.Slice.PartMut.{put_mid}
use Rattle.std.proofs.lemmas.List.{places}

-- q lies before the run of n from p on, in it, or after it
pub data Where (p n q : ℕ) : Type 0 where
  before : q < p → Where p n q
  within : (i : ℕ) → i < n → p + i ≡ q → Where p n q
  behind : p + n ≤ q → Where p n q

pub where_decided : (p n q : ℕ) → Where p n q
where_decided p n q = go (dec_lt q p) (dec_lt q (p + n))
  where
    go : Dec (q < p) → Dec (q < p + n) → Where p n q
    go (yes a) d = before a
    go (no a) (yes b) = within (q - p) (omega arith) (omega arith)
    go (no a) (no b) = behind (omega arith)

module _ {A : Type 0} (d : A) where
  pub sets_before : (vs l : List A) (p q : ℕ) → q < p → get_or (sets l p vs) q d ≡ get_or l q d
  sets_before [] l p q h = refl
  sets_before (a ∷ vs) l p q h = sets_before vs (set l p a) (suc p) q (omega arith) ∙ get_or-set_other l p q a d (omega arith)

  pub sets_behind : (vs l : List A) (p q : ℕ) → p + length vs ≤ q → get_or (sets l p vs) q d ≡ get_or l q d
  sets_behind [] l p q h = refl
  sets_behind (a ∷ vs) l p q h = sets_behind vs (set l p a) (suc p) q (omega arith) ∙ get_or-set_other l p q a d (omega arith)

  pub sets_within : (vs l : List A) (p i : ℕ) → i < length vs → p + length vs ≤ length l → get_or (sets l p vs) (p + i) d ≡ get_or vs i d
  sets_within [] l p i h r = absurd (omega arith)
  sets_within (a ∷ vs) l p zero h r =
      ap (λ (q : ℕ). get_or (sets l p (a ∷ vs)) q d) (add-zero p)
      ∙ sets_before vs (set l p a) (suc p) p (omega arith)
      ∙ get_or-set_same l p a d (omega arith)
  sets_within (a ∷ vs) l p (suc i) h r =
      let e : p + suc i ≡ suc p + i = omega arith in
      ap (λ (q : ℕ). get_or (sets l p (a ∷ vs)) q d) e
      ∙ sets_within vs (set l p a) (suc p) i (omega arith) (omega (arith, length-set l p a))

-- a part of k words from p on was written at once
module _ {A : Type 0} (d : A) (p k : ℕ) (l vs : List A) (room : p + k ≤ length l) (long : length vs ≡ k) where
  pub length_put : length (put_mid p k l vs) ≡ length l
  length_put = grind (arith, places)

  pub put_before : (q : ℕ) → q < p → get_or (put_mid p k l vs) q d ≡ get_or l q d
  put_before q h = grind (arith, places)

  pub put_within : (i : ℕ) → i < k → get_or (put_mid p k l vs) (p + i) d ≡ get_or vs i d
  put_within i h = grind (arith, places)

  pub put_behind : (q : ℕ) → p + k ≤ q → get_or (put_mid p k l vs) q d ≡ get_or l q d
  put_behind q h = grind (arith, places)

-- .. or filled with one word
module _ {A : Type 0} (d : A) (p k : ℕ) (l vs : List A) (x : A) (room : p + k ≤ length l) (same : vs ≡ replicate (length (take k (drop p l))) x) where
  pub length_filled : length vs ≡ k
  length_filled = ap length same ∙ length-replicate (length (take k (drop p l))) x ∙ length-take-le k (drop p l) (omega (arith, length-drop p l))

  pub put_filled : (q : ℕ) → p ≤ q → q < p + k → get_or (put_mid p k l vs) q d ≡ x
  put_filled q a b =
      let e : p + (q - p) ≡ q = omega arith in
      let n : length (take k (drop p l)) ≡ k = length-take-le k (drop p l) (omega (arith, length-drop p l)) in
      rw e at (put_within d p k l vs room length_filled (q - p) (omega arith) ∙ ap (λ (s : List A). get_or s (q - p) d) same
      ∙ get_or-replicate (length (take k (drop p l))) (q - p) x d (omega (arith, length-replicate (length (take k (drop p l))) x)))
