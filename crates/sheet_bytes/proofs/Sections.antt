-- Sections read from where they begin, and written again: what sheets of every kind share. Assumes nothing.
use mathlib.Core.Path.{◌≡◌, sym, ap, subst, ◌∙◌}
use mathlib.Core.List.{List, [], ◌∷◌, ◌++◌, append_assoc}
use Prim.Native.Nat.{ℕ, zero, suc, ◌+◌, ◌/◌, ◌%◌, ◌≤◌, ◌<◌}
use native.Mathlib.Nat.{add-zero, div-add-mod'}
use native.Mathlib.Numerals.{add-one}
use native.Mathlib.Omega.{arith}
use lib.Arith.{digits_div, digits_mod}
use lib.ListN.{length, get_or, drop, get_or-append}
use lib.Seq.{drop-cons, drop-drop, drop-length, get_or-drop, drop-append_seam}
use Rattle.sheet_bytes.specs.Sections.{two, section}
use Rattle.promises.specs.Sheet.{byte, pair, row}

-- ---- bytes from a place on
pub rest_head : (s : List ℕ) (p x : ℕ) (r : List ℕ) → drop p s ≡ x ∷ r → byte s p ≡ x
rest_head s p x r e = ap (λ (i : ℕ). get_or s i 0) (sym (add-zero p)) ∙ sym (get_or-drop p s 0 0) ∙ ap (λ (l : List ℕ). get_or l 0 0) e

pub rest_tail : (s : List ℕ) (p x : ℕ) (r : List ℕ) → drop p s ≡ x ∷ r → drop (p + 1) s ≡ r
rest_tail s p x r e = sym (drop-drop 1 p s) ∙ ap (drop 1) e

pub rest_over : (s : List ℕ) (p : ℕ) (l r : List ℕ) → drop p s ≡ l ++ r → drop (p + length l) s ≡ r
rest_over s p l r e = sym (drop-drop (length l) p s) ∙ ap (drop (length l)) e ∙ drop-append_seam l r

pub rest_at : (s : List ℕ) (p : ℕ) (l r : List ℕ) → drop p s ≡ l ++ r → (k : ℕ) → k < length l → byte s (p + k) ≡ get_or l k 0
rest_at s p l r e k h = sym (get_or-drop p s k 0) ∙ ap (λ (x : List ℕ). get_or x k 0) e ∙ get_or-append l r 0 k h

pub moved : (s : List ℕ) (p q : ℕ) (r : List ℕ) → p ≡ q → drop p s ≡ r → drop q s ≡ r
moved s p q r e d = ap (λ (i : ℕ). drop i s) (sym e) ∙ d

pub two_at : (s : List ℕ) (p n : ℕ) (r : List ℕ) → drop p s ≡ two n ++ r → (pair s p ≡ n) × (drop (p + 2) s ≡ r)
unfolding two pair
two_at s p n r e =
    let a : byte s p ≡ n / 256 = rest_head s p _ _ e in
    let t : drop (p + 1) s ≡ n % 256 ∷ r = rest_tail s p _ _ e in
    let b : byte s (p + 1) ≡ n % 256 = rest_head s (p + 1) _ _ t in
    ((rw (a, b) (div-add-mod' n 256)), moved s (p + 1 + 1) (p + 2) r (omega arith) (rest_tail s (p + 1) _ _ t))

-- a section: its count, and its items from there on
pub section_at : (s : List ℕ) (p n : ℕ) (l r : List ℕ) → drop p s ≡ section n l ++ r → (pair s p ≡ n) × (drop (p + 2) s ≡ l ++ r)
unfolding section
section_at s p n l r e = two_at s p n (l ++ r) (e ∙ append_assoc (two n) l r)

-- ---- numbers that are bytes
abbrev pub Bytes : List ℕ → Type 0
Bytes s = (p : ℕ) → byte s p < 256

pub bytes_none : Bytes []
bytes_none p = omega arith

pub bytes_more : (x : ℕ) (s : List ℕ) → x < 256 → Bytes s → Bytes (x ∷ s)
bytes_more x s h b zero = h
bytes_more x s h b (suc p) = b p

pub bytes_append : (s r : List ℕ) → Bytes s → Bytes r → Bytes (s ++ r)
bytes_append [] r a b = b
bytes_append (x ∷ s) r a b = bytes_more x (s ++ r) (a 0) (bytes_append s r (λ p. a (suc p)) b)

pub bytes_two : (n : ℕ) → n < 65536 → Bytes (two n)
unfolding two
bytes_two n h = bytes_more (n / 256) (n % 256 ∷ []) (omega arith) (bytes_more (n % 256) [] (omega arith) bytes_none)

pub bytes_section : (n : ℕ) (l r : List ℕ) → n < 65536 → Bytes l → Bytes r → Bytes (section n l ++ r)
unfolding section
bytes_section n l r h b c = bytes_append (two n ++ l) r (bytes_append (two n) l (bytes_two n h) b) c

-- ---- bytes written again
pub slid : (s : List ℕ) (p q : ℕ) → p ≡ q → drop p s ≡ drop q s
slid s p q e = ap (λ (i : ℕ). drop i s) e

pub cut : (s : List ℕ) (p : ℕ) → p < length s → drop p s ≡ byte s p ∷ drop (p + 1) s
cut s p h = drop-cons s p 0 h ∙ ap (λ (i : ℕ). byte s p ∷ drop i s) (sym (add-one p))

module _ (s : List ℕ) (B : Bytes s) where
  pub pair_small : (p : ℕ) → pair s p < 65536
  unfolding pair
  pair_small p = omega (arith, B p, B (p + 1))

  pub two_back : (p : ℕ) → p + 1 < length s → drop p s ≡ two (pair s p) ++ drop (p + 2) s
  unfolding two pair
  two_back p h =
      cut s p (omega arith) ∙ ap (λ (l : List ℕ). byte s p ∷ l) (cut s (p + 1) h)
      ∙ (λ i. sym (digits_div (byte s p) {m = 256} {r = byte s (p + 1)} (B (p + 1))) i
      ∷ sym (digits_mod (byte s p) {m = 256} {r = byte s (p + 1)} (B (p + 1))) i
      ∷ slid s (p + 1 + 1) (p + 2) (omega arith) i)

  -- a section whose items end where the rest begins
  pub section_back : (p n : ℕ) (l r : List ℕ) → p + 1 < length s → pair s p ≡ n → drop (p + 2) s ≡ l ++ r → drop p s ≡ section n l ++ r
  unfolding section
  section_back p n l r h e d =
      two_back p h ∙ (λ i. two (e i) ++ d i) ∙ sym (append_assoc (two n) l r)

-- ---- items one after the other: the bytes of one are g, of all G
module _ {A : Type 0} (g : A → List ℕ) (G : List A → List ℕ) (none : G [] ≡ []) (more : (x : A) (l : List A) → G (x ∷ l) ≡ g x ++ G l) where
  pub items_bytes : (d : A) (l : List A) → ((v : ℕ) → v < length l → Bytes (g (get_or l v d))) → Bytes (G l)
  items_bytes d [] h = subst Bytes (sym none) bytes_none
  items_bytes d (x ∷ l) h = subst Bytes (sym (more x l)) (bytes_append (g x) (G l) (h 0 (omega arith)) (items_bytes d l (λ v q. h (suc v) (omega arith))))

  -- item v from f v on
  module _ (s : List ℕ) (f : ℕ → ℕ) where
    -- P is what is read of one
    pub items_rest : (P : ℕ → Type 0) (d : A) (l : List A) (r : List ℕ) → drop (f 0) s ≡ G l ++ r →
        ((v : ℕ) → v < length l → (t : List ℕ) → drop (f v) s ≡ g (get_or l v d) ++ t → P v × (drop (f (suc v)) s ≡ t)) → ((v : ℕ) → v < length l → P v) × (drop (f (length l)) s ≡ r)
    items_rest P d l r e h =
        ((λ v q. (one v q (from v (omega arith))).0), from (length l) (omega arith) ∙ ap (λ (m : List ℕ). m ++ r) (ap G (drop-length l) ∙ none))
      where
        one : (v : ℕ) → v < length l → drop (f v) s ≡ G (drop v l) ++ r → P v × (drop (f (suc v)) s ≡ G (drop (suc v) l) ++ r)
        one v q p =
            h v q (G (drop (suc v) l) ++ r)
            (p ∙ ap (λ (m : List ℕ). m ++ r) (ap G (drop-cons l v d q) ∙ more (get_or l v d) (drop (suc v) l)) ∙ append_assoc (g (get_or l v d)) (G (drop (suc v) l)) r)

        from : (v : ℕ) → v ≤ length l → drop (f v) s ≡ G (drop v l) ++ r
        from zero q = e
        from (suc v) q = (one v (omega arith) (from v (omega arith))).1

    pub items_back : (a : ℕ → A) (n u m : ℕ) → u + n ≡ m → ((v : ℕ) → v < m → drop (f v) s ≡ g (a v) ++ drop (f (suc v)) s) → drop (f u) s ≡ G (row u n a) ++ drop (f m) s
    items_back a zero u m e h = slid s (f u) (f m) (ap f (sym (add-zero u) ∙ e)) ∙ ap (λ (l : List ℕ). l ++ drop (f m) s) (sym none)
    items_back a (suc n) u m e h =
        h u (omega arith) ∙ ap (λ (r : List ℕ). g (a u) ++ r) (items_back a n (suc u) m (omega arith) h)
        ∙ sym (append_assoc (g (a u)) (G (row (suc u) n a)) (drop (f m) s)) ∙ ap (λ (l : List ℕ). l ++ drop (f m) s) (sym (more (a u) (row (suc u) n a)))
