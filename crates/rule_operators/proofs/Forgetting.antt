-- THE LAWS OF FORGETTING'S RULE: the customer's three sentences, that 0/1 rules keep the largest, and that two features may be forgotten in either order. Assumes nothing.
use mathlib.Core.Path.{◌≡◌, refl, sym, ap, subst, ◌∙◌}
use mathlib.Core.Logic.{◌⊎◌, inl, inr, ⊎_elim}
use mathlib.Core.List.Memᴰ
use mathlib.Core.List.{List, [], ◌∷◌}
use Prim.Native.Nat.{ℕ, ◌<◌}
use native.Mathlib.Omega.{arith}
use borrow.Author.Tests.{lt-ltb, le-ltb, eq-eqb, ne_eqb}
use Rattle.table_words.proofs.Tab.{split, same, tab_occurs, occurs_tab}
use Rattle.rule_operators.specs.Forgetting.{Occurs, Left, no_other, one_other, others_differ, largest_of}
use Rattle.promises.specs.Tab.{tab}
use Rattle.promises.specs.Operators.{greater_of as larger_of, merged_of, forgotten_of}

-- ---- two numbers
pub merged_left : (x y : ℕ) → x ≡ 0 → merged_of x y ≡ y
merged_left x y e = rw (eq-eqb x 0 e) refl

pub merged_right : (x y : ℕ) → y ≡ 0 → merged_of x y ≡ x
merged_right x y e = ⊎_elim (λ i. merged_left x y i ∙ e ∙ sym i) (λ n. rw (ne_eqb x 0 n, eq-eqb y 0 e) refl) (same x 0)

pub merged_same : (x y : ℕ) → x ≡ y → merged_of x y ≡ x
merged_same x y e = ⊎_elim
    (λ i. merged_left x y i ∙ sym e)
    (λ n. rw (ne_eqb x 0 n, ne_eqb y 0 (λ i. n (e ∙ i)), eq-eqb x y e) refl)
    (same x 0)

pub merged_differ : (x y : ℕ) → (x ≡ 0 → ⊥) → (y ≡ 0 → ⊥) → (x ≡ y → ⊥) → merged_of x y ≡ 65535
merged_differ x y a b c = rw (ne_eqb x 0 a, ne_eqb y 0 b, ne_eqb x y c) refl

-- which of the four it is
data Merging (x y : ℕ) : Type 0 where
  first_gives_way : x ≡ 0 → merged_of x y ≡ y → Merging x y
  second_gives_way : y ≡ 0 → merged_of x y ≡ x → Merging x y
  they_are_one : x ≡ y → merged_of x y ≡ x → Merging x y
  they_differ : (x ≡ 0 → ⊥) → (y ≡ 0 → ⊥) → (x ≡ y → ⊥) → merged_of x y ≡ 65535 → Merging x y

merging : (x y : ℕ) → Merging x y
merging x y = ⊎_elim
    (λ e. first_gives_way e (merged_left x y e))
    (λ a. ⊎_elim
    (λ e. second_gives_way e (merged_right x y e))
    (λ b. ⊎_elim (λ e. they_are_one e (merged_same x y e)) (λ c. they_differ a b c (merged_differ x y a b c)) (same x y))
    (same y 0))
    (same x 0)

-- ---- numbers that give way
-- x gives way to z: x is 0, or it is z, or z is 65,535
abbrev Under : ℕ → ℕ → Type 0
Under x z = (x ≡ 0) ⊎ ((x ≡ z) ⊎ (z ≡ 65535))

itself : {x z : ℕ} → z ≡ x → Under x z
itself e = inr (inl (sym e))

under_on : {x y z : ℕ} → Under x y → Under y z → Under x z
under_on (inl e) k = inl e
under_on {z = z} (inr (inl e)) k = subst (λ (u : ℕ). Under u z) (sym e) k
under_on (inr (inr e)) (inl i) = absurd (omega (arith, e, i))
under_on (inr (inr e)) (inr (inl i)) = inr (inr (sym i ∙ e))
under_on (inr (inr e)) (inr (inr i)) = inr (inr i)

under_both : {x y : ℕ} → Under x y → Under y x → x ≡ y
under_both (inl e) (inl i) = e ∙ sym i
under_both (inl e) (inr (inl i)) = sym i
under_both (inl e) (inr (inr i)) = absurd (omega (arith, e, i))
under_both (inr (inl e)) k = e
under_both (inr (inr e)) (inl i) = absurd (omega (arith, e, i))
under_both (inr (inr e)) (inr (inl i)) = sym i
under_both (inr (inr e)) (inr (inr i)) = i ∙ sym e

-- a number other than 0 that gives way to z is z, unless z is 65,535
other_under : {x z : ℕ} → (x ≡ 0 → ⊥) → Under x z → (x ≡ z) ⊎ (z ≡ 65535)
other_under n (inl e) = absurd (n e)
other_under n (inr k) = k

-- two numbers give way to their one, and it to whatever both do
module _ {x y : ℕ} where
  first_under : Merging x y → Under x (merged_of x y)
  first_under (first_gives_way e i) = inl e
  first_under (second_gives_way e i) = itself i
  first_under (they_are_one e i) = itself i
  first_under (they_differ a b c i) = inr (inr i)

  second_under : Merging x y → Under y (merged_of x y)
  second_under (first_gives_way e i) = itself i
  second_under (second_gives_way e i) = inl e
  second_under (they_are_one e i) = itself (i ∙ e)
  second_under (they_differ a b c i) = inr (inr i)

  differ_under : {z : ℕ} → (x ≡ y → ⊥) → (x ≡ z) ⊎ (z ≡ 65535) → (y ≡ z) ⊎ (z ≡ 65535) → z ≡ 65535
  differ_under c (inl e) (inl i) = absurd (c (e ∙ sym i))
  differ_under c (inl e) (inr i) = i
  differ_under c (inr e) k = e

  merged_under : {z : ℕ} → Merging x y → Under x z → Under y z → Under (merged_of x y) z
  merged_under {z} (first_gives_way e i) h k = subst (λ (u : ℕ). Under u z) (sym i) k
  merged_under {z} (second_gives_way e i) h k = subst (λ (u : ℕ). Under u z) (sym i) h
  merged_under {z} (they_are_one e i) h k = subst (λ (u : ℕ). Under u z) (sym i) h
  merged_under (they_differ a b c i) h k = inr (inr (differ_under c (other_under a h) (other_under b k)))

-- ---- THE NUMBER THAT IS LEFT: all give way to it, and it to whatever all do
pub under_forgotten : {x : ℕ} (l : List ℕ) → Occurs x l → Under x (forgotten_of l)
unfolding forgotten_of
under_forgotten [] m = absurd (Memᴰ.not-nil m)
under_forgotten (y ∷ l) (Memᴰ.head e) = subst (λ (u : ℕ). Under u (merged_of y (forgotten_of l))) (sym e) (first_under (merging y (forgotten_of l)))
under_forgotten (y ∷ l) (Memᴰ.tail m) = under_on (under_forgotten l m) (second_under (merging y (forgotten_of l)))

pub forgotten_under : (l : List ℕ) {z : ℕ} → ((x : ℕ) → Occurs x l → Under x z) → Under (forgotten_of l) z
unfolding forgotten_of
forgotten_under [] h = inl refl
forgotten_under (x ∷ l) h = merged_under (merging x (forgotten_of l)) (h x (Memᴰ.head refl)) (forgotten_under l (λ y m. h y (Memᴰ.tail m)))

-- ---- THE CUSTOMER'S THREE SENTENCES: one of them says what is left of any numbers
one_more : (x : ℕ) {l : List ℕ} {r : ℕ} → Left l r → Left (x ∷ l) (merged_of x r)
one_more x {l} (no_other h) = ⊎_elim
    (λ e. subst (Left (x ∷ l)) (sym (merged_left x 0 e)) (no_other (λ y m. ⊎_elim (λ i. i ∙ e) (h y) (Memᴰ.cases_cons m))))
    (λ n. subst (Left (x ∷ l)) (sym (merged_right x 0 refl)) (one_other n (Memᴰ.head refl) (λ y m k. ⊎_elim (λ i. i) (λ j. absurd (k (h y j))) (Memᴰ.cases_cons m))))
    (same x 0)
one_more x {l} {r} (one_other n m h) = ⊎_elim
    (λ e. subst (Left (x ∷ l)) (sym (merged_left x r e)) (one_other n (Memᴰ.tail m) (λ y k i. ⊎_elim (λ j. absurd (i (j ∙ e))) (λ j. h y j i) (Memᴰ.cases_cons k))))
    (λ a. ⊎_elim
    (λ e. subst (Left (x ∷ l)) (sym (merged_same x r e ∙ e)) (one_other n (Memᴰ.tail m) (λ y k i. ⊎_elim (λ j. j ∙ e) (λ j. h y j i) (Memᴰ.cases_cons k))))
    (λ c. subst (Left (x ∷ l)) (sym (merged_differ x r a n c)) (others_differ a n c (Memᴰ.head refl) (Memᴰ.tail m)))
    (same x r))
    (same x 0)
one_more x {l} (others_differ a b c m k) =
    let top : 65535 ≡ merged_of x 65535 = under_both (second_under (merging x 65535)) (inr (inr refl)) in
    subst (Left (x ∷ l)) top (others_differ a b c (Memᴰ.tail m) (Memᴰ.tail k))

pub forgotten_left : (l : List ℕ) → Left l (forgotten_of l)
unfolding forgotten_of
forgotten_left [] = no_other (λ x m. absurd (Memᴰ.not-nil m))
forgotten_left (x ∷ l) = one_more x (forgotten_left l)

-- and no other number is
pub left_forgotten : {l : List ℕ} {r : ℕ} → Left l r → r ≡ forgotten_of l
left_forgotten {l} (no_other h) = under_both (inl refl) (forgotten_under l (λ x m. inl (h x m)))
left_forgotten {l} {r} (one_other n m h) = under_both (under_forgotten l m) (forgotten_under l (λ x k. ⊎_elim inl (λ i. itself (sym (h x k i))) (same x 0)))
left_forgotten {l} (others_differ a b c m k) = sym (differ_under c (other_under a (under_forgotten l m)) (other_under b (under_forgotten l k)))

-- ---- 0/1 RULES: the largest, as before
merged_larger : {x y : ℕ} → x < 2 → y < 2 → merged_of x y ≡ larger_of x y
merged_larger {x} {y} h k = ⊎_elim
    (λ l. merged_left x y (omega (arith, l, k)) ∙ sym (rw (lt-ltb x y l) refl))
    (λ l. ⊎_elim (merged_right x y) (λ n. merged_same x y (omega (arith, n, l, h))) (same y 0) ∙ sym (rw (le-ltb x y l) refl))
    (split x y)

larger_small : {x y : ℕ} → x < 2 → y < 2 → larger_of x y < 2
larger_small {x} {y} h k = ⊎_elim (λ l. rw (lt-ltb x y l) k) (λ l. rw (le-ltb x y l) h) (split x y)

largest_small : (l : List ℕ) → ((x : ℕ) → Occurs x l → x < 2) → largest_of l < 2
unfolding largest_of
largest_small [] h = omega arith
largest_small (x ∷ l) h = larger_small (h x (Memᴰ.head refl)) (largest_small l (λ y m. h y (Memᴰ.tail m)))

pub forgotten_largest : (l : List ℕ) → ((x : ℕ) → Occurs x l → x < 2) → forgotten_of l ≡ largest_of l
unfolding forgotten_of largest_of
forgotten_largest [] h = refl
forgotten_largest (x ∷ l) h =
    let k : (y : ℕ) → Occurs y l → y < 2 = λ y m. h y (Memᴰ.tail m) in
    ap (merged_of x) (forgotten_largest l k) ∙ merged_larger (h x (Memᴰ.head refl)) (largest_small l k)

-- ---- TWO FEATURES IN EITHER ORDER: of the numbers f u v, the rows first or the columns first
rows : (ℕ → ℕ → ℕ) → ℕ → ℕ → ℕ
rows f m n = forgotten_of (tab (λ u. forgotten_of (tab (λ v. f u v) n)) m)

rows_under : (f : ℕ → ℕ → ℕ) (m n : ℕ) → Under (rows f m n) (rows (λ v u. f u v) n m)
unfolding rows
rows_under f m n = forgotten_under (tab row m) (λ x k. let r = occurs_tab row m k in subst (λ (u : ℕ). Under u (rows (λ v u. f u v) n m)) (sym r.2) (row_under r.0 r.1))
  where
    row : ℕ → ℕ
    row u = forgotten_of (tab (λ v. f u v) n)

    column : ℕ → ℕ
    column v = forgotten_of (tab (λ u. f u v) m)

    row_under : (u : ℕ) → u < m → Under (row u) (forgotten_of (tab column n))
    row_under u h = forgotten_under (tab (λ v. f u v) n) (λ x k.
        let r = occurs_tab (λ v. f u v) n k in
        subst (λ (y : ℕ). Under y (forgotten_of (tab column n))) (sym r.2)
        (under_on (under_forgotten (tab (λ i. f i r.0) m) (tab_occurs (λ i. f i r.0) m u h)) (under_forgotten (tab column n) (tab_occurs column n r.0 r.1))))

pub forgotten_swap : (f : ℕ → ℕ → ℕ) (m n : ℕ) → forgotten_of (tab (λ u. forgotten_of (tab (λ v. f u v) n)) m) ≡ forgotten_of (tab (λ v. forgotten_of (tab (λ u. f u v) m)) n)
unfolding rows
forgotten_swap f m n = under_both (rows_under f m n) (rows_under (λ v u. f u v) n m)

-- ---- EXAMPLES
pub forgotten_examples : (forgotten_of (0 ∷ 0 ∷ []) ≡ 0) × (forgotten_of (0 ∷ 12 ∷ []) ≡ 12) × (forgotten_of (12 ∷ 0 ∷ 12 ∷ []) ≡ 12) × (forgotten_of (12 ∷ 40 ∷ []) ≡ 65535)
    × (forgotten_of (0 ∷ 65535 ∷ []) ≡ 65535) × (forgotten_of (40 ∷ 12 ∷ 40 ∷ []) ≡ 65535)
unfolding forgotten_of
forgotten_examples = (refl, refl, refl, refl, refl, refl)
