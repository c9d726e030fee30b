-- The words without notes: what they keep, and that a note does not change them. Assumes nothing.
use mathlib.Core.Path.{◌≡◌, sym, ◌∙◌}
use mathlib.Core.Logic.{⊎_elim}
use mathlib.Core.List.{List}
use Prim.Native.Nat.{ℕ, ◌+◌, ◌*◌, ◌≤◌, ◌<◌}
use native.Mathlib.Omega.{arith}
use borrow.Author.Tests.{lt-ltb, le-ltb}
use lib.ListN.{length, get_or, set, length-set, get_or-eq_default}
use lib.Seq.{get_or-set_other, ext_get_or}
use Rattle.table_words.proofs.Tab.{split, length_tab, get_or_tab}
use Rattle.table_notes.specs.Plain.{plain_at, plain}
use Rattle.promises.specs.Words.{head, capacity, bound, Zeros}

-- ---- the words one by one
pub length_plain : (w : List ℕ) → length (plain w) ≡ length w
unfolding plain
length_plain w = length_tab (plain_at w) (length w)

at_plain : (w : List ℕ) (j : ℕ) → j < length w → get_or (plain w) j 0 ≡ plain_at w j
unfolding plain
at_plain w j h = get_or_tab (plain_at w) (length w) j 0 h

outside : (w : List ℕ) (j : ℕ) → length w ≤ j → get_or (plain w) j 0 ≡ get_or w j 0
outside w j h = get_or-eq_default (plain w) 0 (omega (arith, length_plain w)) ∙ sym (get_or-eq_default w 0 h)

pub plain_near : (w : List ℕ) (j : ℕ) → j < 8192 + 16 * capacity w → get_or (plain w) j 0 ≡ get_or w j 0
plain_near w j h = ⊎_elim (λ l. at_plain w j l ∙ rw (lt-ltb j (8192 + 16 * capacity w) h)) (λ l. outside w j l) (split j (length w))

pub plain_far : (w : List ℕ) (j : ℕ) → 8192 + 16 * capacity w ≤ j → j < bound (capacity w) → get_or (plain w) j 0 ≡ 0
plain_far w j h g = ⊎_elim
    (λ l. at_plain w j l ∙ rw (le-ltb j (8192 + 16 * capacity w) h, lt-ltb j (bound (capacity w)) g))
    (λ l. get_or-eq_default (plain w) 0 (omega (arith, length_plain w)))
    (split j (length w))

pub plain_past : (w : List ℕ) (j : ℕ) → bound (capacity w) ≤ j → get_or (plain w) j 0 ≡ get_or w j 0
plain_past w j h = ⊎_elim
    (λ l. at_plain w j l ∙ rw (le-ltb j (8192 + 16 * capacity w) (omega arith), le-ltb j (bound (capacity w)) h))
    (λ l. outside w j l)
    (split j (length w))

-- words without notes are told by the near records and what lies past the far ones
pub plain_is : (w u : List ℕ) → length u ≡ length w → capacity u ≡ capacity w → ((j : ℕ) → j < 8192 + 16 * capacity w → get_or u j 0 ≡ get_or w j 0)
    → ((j : ℕ) → bound (capacity w) ≤ j → get_or u j 0 ≡ get_or w j 0) → plain u ≡ plain w
plain_is w u l c near past =
    ext_get_or 0 (plain u) (plain w) (length_plain u ∙ l ∙ sym (length_plain w))
    (λ j h. ⊎_elim
    (λ a. plain_near u j (omega arith) ∙ near j a ∙ sym (plain_near w j a))
    (λ a. ⊎_elim
    (λ b. plain_far u j (omega arith) (omega arith) ∙ sym (plain_far w j a b))
    (λ b. plain_past u j (omega arith) ∙ past j b ∙ sym (plain_past w j b))
    (split j (bound (capacity w))))
    (split j (8192 + 16 * capacity w)))

-- where the far records are 0 they are the words
pub plain_of : (w : List ℕ) → Zeros w (8192 + 16 * capacity w) (bound (capacity w)) → plain w ≡ w
plain_of w z =
    ext_get_or 0 (plain w) w (length_plain w)
    (λ j h. ⊎_elim
    (λ a. plain_near w j a)
    (λ a. ⊎_elim (λ b. plain_far w j a b ∙ sym (z.zeros j a b)) (λ b. plain_past w j b) (split j (bound (capacity w))))
    (split j (8192 + 16 * capacity w)))

-- a store to a far record
module _ (w : List ℕ) (p c : ℕ) (from : 8192 + 16 * capacity w ≤ p) (below : p < bound (capacity w)) where
  pub set_capacity : capacity (set w p c) ≡ capacity w
  unfolding head
  set_capacity = get_or-set_other w p 1 c 0 (omega arith)

  pub plain_set : plain (set w p c) ≡ plain w
  plain_set =
      plain_is w (set w p c) (length-set w p c) set_capacity
      (λ j h. get_or-set_other w p j c 0 (omega arith))
      (λ j h. get_or-set_other w p j c 0 (omega arith))

pub plain_capacity : (w : List ℕ) → capacity (plain w) ≡ capacity w
unfolding head
plain_capacity w = plain_near w 1 (omega arith)
