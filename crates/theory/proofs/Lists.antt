-- Lists, the features that are left, and no more pigeons than holes. Assumes nothing.
use mathlib.Core.Path.{◌≡◌, refl, sym, ap, ◌∙◌, subst}
use mathlib.Core.List.{List, [], ◌∷◌, map}
use Prim.Native.Nat.{ℕ, zero, suc, ◌+◌, ◌≤◌, ◌<◌}
use native.Mathlib.Nat.{le_of_suc-le-suc, not-suc-le-zero, add-zero}
use native.Mathlib.Decide.{ℕ_discrete}
use native.Mathlib.Numerals.{add-one}
use native.Mathlib.Omega.{arith}
use lib.ListN.{length, get_or, drop, set, length-drop}
use lib.Seq.{get_or-drop, drop-drop, get_or-set_same, get_or-set_other}
use Rattle.theory.specs.Settings.{Pos}

pub get_or_map_in {ℓ} : {A B : Type ℓ} (f : A → B) (d : A) (e : B) (l : List A) (i : ℕ) → i < length l → get_or (map f l) i e ≡ f (get_or l i d)
get_or_map_in f d e [] i h = absurd (not-suc-le-zero h)
get_or_map_in f d e (x ∷ l) zero h = refl
get_or_map_in f d e (x ∷ l) (suc i) h = get_or_map_in f d e l i (le_of_suc-le-suc h)

pub map_undo {ℓ} : {A B : Type ℓ} (f : A → B) (g : B → A) → ((x : A) → g (f x) ≡ x) → (l : List A) → map g (map f l) ≡ l
map_undo f g h [] = refl
map_undo f g h (x ∷ l) = λ i. h x i ∷ map_undo f g h l i

-- a list of the features that are left is the end of the whole list
pub drop_head : (S : List ℕ) (k n : ℕ) (ns : List ℕ) → drop k S ≡ n ∷ ns → (k < length S) × (get_or S k 0 ≡ n) × (drop (suc k) S ≡ ns)
drop_head S k n ns e =
    let l : length (drop k S) ≡ suc (length ns) = ap length e in (
      omega (arith, length-drop k S),
      ap (λ (i : ℕ). get_or S i 0) (sym (add-zero k)) ∙ sym (get_or-drop k S 0 0) ∙ ap (λ (r : List ℕ). get_or r 0 0) e,
      ap (λ (i : ℕ). drop i S) (sym (add-one k)) ∙ sym (drop-drop 1 k S) ∙ ap (drop 1) e,
    )

pub pigeons : (n m : ℕ) (f : ℕ → ℕ) → ((i : ℕ) → i < m → f i < n) → ((i j : ℕ) → i < m → j < m → f i ≡ f j → i ≡ j) → m ≤ n
pigeons n zero f into one = omega arith
pigeons zero (suc m) f into one = absurd (not-suc-le-zero (into 0 (omega arith)))
pigeons (suc n) (suc m) f into one = suc_le (pigeons n m f' into' one')
  where
    suc_le : m ≤ n → suc m ≤ suc n
    suc_le h = omega arith

    -- the hole n, if it is taken, is handed the last pigeon's
    swap : (i : ℕ) → Dec (f i ≡ n) → ℕ
    swap i (yes e) = f m
    swap i (no e) = f i

    f' : ℕ → ℕ
    f' i = swap i (ℕ_discrete (f i) n)

    last : (i : ℕ) → i < m → f i ≡ f m → ⊥
    last i h e = let q : i ≡ m = one i m (omega arith) (omega arith) e in omega arith

    swap_into : (i : ℕ) → i < m → (d : Dec (f i ≡ n)) → swap i d < n
    swap_into i h (yes e) =
        let a : f m < suc n = into m (omega arith) in
        let b : ¬ (f m ≡ n) = λ q. last i h (e ∙ sym q) in
        omega arith
    swap_into i h (no e) = let a : f i < suc n = into i (omega arith) in omega arith

    into' : (i : ℕ) → i < m → f' i < n
    into' i h = swap_into i h (ℕ_discrete (f i) n)

    swap_one : (i j : ℕ) → i < m → j < m → (d : Dec (f i ≡ n)) (e : Dec (f j ≡ n)) → swap i d ≡ swap j e → i ≡ j
    swap_one i j hi hj (yes d) (yes e) q = one i j (omega arith) (omega arith) (d ∙ sym e)
    swap_one i j hi hj (yes d) (no e) q = absurd (last j hj (sym q))
    swap_one i j hi hj (no d) (yes e) q = absurd (last i hi q)
    swap_one i j hi hj (no d) (no e) q = one i j (omega arith) (omega arith) q

    one' : (i j : ℕ) → i < m → j < m → f' i ≡ f' j → i ≡ j
    one' i j hi hj q = swap_one i j hi hj (ℕ_discrete (f i) n) (ℕ_discrete (f j) n) q

pub pos_drop : (k : ℕ) (S : List ℕ) → Pos S → Pos (drop k S)
pos_drop zero S p = p
pos_drop (suc k) [] p = p
pos_drop (suc k) (n ∷ ns) p = pos_drop k ns p.1

-- sizes one by one
pub pos_of : (S : List ℕ) → ((k : ℕ) → k < length S → 0 < get_or S k 0) → Pos S
pos_of [] h = tt
pos_of (n ∷ S) h = (h 0 (omega arith), pos_of S (λ k l. h (suc k) (omega arith)))

-- a list that is filled from the front, one place more
pub put_more : {A : Type 0} (d : A) (P : ℕ → A → Type 0) (l : List A) (i : ℕ) (a : A) → i < length l → ((j : ℕ) → j < i → P j (get_or l j d)) → P i a → (j : ℕ) → j < i + 1 → P j (get_or (set l i a) j d)
put_more d P l i a h old new j q = go (ℕ_discrete j i)
  where
    go : Dec (j ≡ i) → P j (get_or (set l i a) j d)
    go (yes e) = subst (λ (n : ℕ). P n (get_or (set l i a) n d)) (sym e) (subst (P i) (sym (get_or-set_same l i a d h)) new)
    go (no e) = subst (P j) (sym (get_or-set_other l i j a d e)) (old j (omega arith))
