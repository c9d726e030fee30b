-- The entries of a memory: where they lie, their keys, and the words that a store leaves. Assumes nothing.
use mathlib.Core.Path.{◌≡◌, refl, sym, subst, ◌∙◌}
use mathlib.Core.Logic.{◌⊎◌, inl, inr, ⊎_elim}
use mathlib.Core.List.{List}
use Prim.Native.Nat.{ℕ, ◌+◌, ◌*◌, ◌/◌, ◌≤◌, ◌<◌}
use native.Mathlib.Nat.{div-add-mod', mul-le-mul_left, mul-le-mul_right}
use native.Mathlib.Omega.{arith}
use lib.ListN.{length, get_or, drop, set, length-drop, length-set}
use lib.Seq.{length-take-le, get_or-take, get_or-drop, get_or-set_same, get_or-set_other, ext_get_or}
use Rattle.table_words.proofs.Tab.{split, same}
use Rattle.table_memory.specs.Memory.{noted, key_at, Inside, Entry, Stored}

-- ---- where they lie
-- one of so many entries of m words lies within l words
pub lies : (m l i : ℕ) → i < l / m → m * i + m ≤ l
lies m l i h =
    let a : (i + 1) * m ≤ l / m * m = mul-le-mul_right m (omega arith) in
    omega (arith, a, div-add-mod' l m)

-- another entry lies before it or after it
beside : (m i b j : ℕ) → (i ≡ b → ⊥) → j < m → (m * i + j < m * b) ⊎ (m * b + m ≤ m * i + j)
beside m i b j n h = ⊎_elim
    (λ l. let a : m * (i + 1) ≤ m * b = mul-le-mul_left m (omega arith) in inl (omega (arith, a)))
    (λ l. let a : m * (b + 1) ≤ m * i = mul-le-mul_left m (omega (arith, n)) in inr (omega (arith, a)))
    (split i b)

-- ---- their keys
pub at_key : (n : ℕ) (s : List ℕ) (i j : ℕ) → j < n → get_or (key_at n s i) j 0 ≡ noted n s i j
unfolding key_at
at_key n s i j h = get_or-take n (drop ((n + 2) * i) s) j 0 h ∙ get_or-drop ((n + 2) * i) s j 0

length_key : (n : ℕ) (s : List ℕ) (i : ℕ) → Inside n s i → length (key_at n s i) ≡ n
unfolding key_at
length_key n s i h = length-take-le n (drop ((n + 2) * i) s) (omega (arith, length-drop ((n + 2) * i) s))

-- a key is told by its words
pub key_is : (n : ℕ) (s : List ℕ) (i : ℕ) (key : List ℕ) → length key ≡ n → Inside n s i → ((j : ℕ) → j < n → noted n s i j ≡ get_or key j 0) → key_at n s i ≡ key
key_is n s i key e h w =
    ext_get_or 0 (key_at n s i) key (length_key n s i h ∙ sym e) (λ j l. let b : j < n = omega (arith, length_key n s i h) in at_key n s i j b ∙ w j b)

pub key_like : (n : ℕ) (s s' : List ℕ) (i : ℕ) → Inside n s i → Inside n s' i → ((j : ℕ) → j < n → noted n s' i j ≡ noted n s i j) → key_at n s' i ≡ key_at n s i
key_like n s s' i h h' w = key_is n s' i (key_at n s i) (length_key n s i h) h' (λ j l. w j l ∙ sym (at_key n s i j l))

-- ---- stores
-- entry b is written: t has its key, and the words of the result follow; the others are as they were
module _ (s t key : List ℕ) (b x y : ℕ) (room : Inside (length key) s b) (len : length t ≡ length s)
    (front : (j : ℕ) → j < (length key + 2) * b → get_or t j 0 ≡ get_or s j 0)
    (run : (u : ℕ) → u < length key → get_or t ((length key + 2) * b + u) 0 ≡ get_or key u 0)
    (rest : (j : ℕ) → (length key + 2) * b + length key ≤ j → get_or t j 0 ≡ get_or s j 0) where
  abbrev n : ℕ
  n = length key

  abbrev t₁ : List ℕ
  t₁ = set t ((n + 2) * b + n) x

  abbrev t₂ : List ℕ
  t₂ = set t₁ ((n + 2) * b + (n + 1)) y

  long₁ : length t₁ ≡ length s
  long₁ = length-set t ((n + 2) * b + n) x ∙ len

  long₂ : length t₂ ≡ length s
  long₂ = length-set t₁ ((n + 2) * b + (n + 1)) y ∙ long₁

  -- the result's words are the last two
  left : (p : ℕ) → (p ≡ (n + 2) * b + n → ⊥) → (p ≡ (n + 2) * b + (n + 1) → ⊥) → get_or t₂ p 0 ≡ get_or t p 0
  left p h g = get_or-set_other t₁ ((n + 2) * b + (n + 1)) p y 0 g ∙ get_or-set_other t ((n + 2) * b + n) p x 0 h

  other : (i j : ℕ) → (i ≡ b → ⊥) → j < n + 2 → noted n t₂ i j ≡ noted n s i j
  other i j ne h = ⊎_elim
      (λ l. left ((n + 2) * i + j) (λ e. omega (arith, l, e)) (λ e. omega (arith, l, e)) ∙ front ((n + 2) * i + j) l)
      (λ l. left ((n + 2) * i + j) (λ e. omega (arith, l, e)) (λ e. omega (arith, l, e)) ∙ rest ((n + 2) * i + j) (omega (arith, l)))
      (beside (n + 2) i b j ne h)

  entry : Entry t₂ b key x y
  entry =
      let within : Inside n t₂ b = omega (arith, long₂) in
      record {
        inside = within;
        keyed = key_is n t₂ b key refl within (λ j h. left ((n + 2) * b + j) (omega arith) (omega arith) ∙ run j h);
        first = get_or-set_other t₁ ((n + 2) * b + (n + 1)) ((n + 2) * b + n) y 0 (omega arith) ∙ get_or-set_same t ((n + 2) * b + n) x 0 (omega (arith, len));
        second = get_or-set_same t₁ ((n + 2) * b + (n + 1)) y 0 (omega (arith, long₁));
      }

  pub stored : Stored s t₂ key x y
  stored = record {
    long = long₂;
    entries = λ i h. ⊎_elim (λ e. inl (subst (λ (m : ℕ). Entry t₂ m key x y) (sym e) entry)) (λ ne. inr (λ j a. other i j ne a)) (same i b);
  }
