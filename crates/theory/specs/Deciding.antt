-- Means of proof: decisions on lists that `build` computes with: equal lists, all elements equal, the first place of an element, all numbers below a bound. Assumes nothing.
use Rattle.std.specs.Prelude.{◌≡◌, refl, ℕ, zero, suc, ◌<◌, length, get_or}
use mathlib.Core.List.{List, [], ◌∷◌, nil≢cons, cons≢nil, head-eq_of_cons-eq, tail-eq_of_cons-eq}
use Rattle.std.proofs.Common.{le_of_suc-le-suc, not-suc-le-zero, arith}
use Rattle.std.proofs.Math.Decide.{dec_lt}

-- equal lists
unfoldable pub list_discrete : {A : Type 0} → Discrete A → Discrete (List A)
list_discrete eq [] [] = yes refl
list_discrete eq [] (y ∷ ys) = no nil≢cons
list_discrete eq (x ∷ xs) [] = no cons≢nil
list_discrete {A} eq (x ∷ xs) (y ∷ ys) = go (eq x y) (list_discrete eq xs ys)
  where
    go : Dec (x ≡ y) → Dec (xs ≡ ys) → Dec (◌≡◌ {A = List A} (x ∷ xs) (y ∷ ys))
    go (yes p) (yes q) = yes (λ i. p i ∷ q i)
    go (yes p) (no q) = no (λ e. q (tail-eq_of_cons-eq e))
    go (no p) d = no (λ e. p (head-eq_of_cons-eq e))

module _ {A : Type 0} (d : A) where
  -- all of a list's elements are its first
  abbrev pub Are : A → List A → Type 0
  Are a l = (i : ℕ) → i < length l → get_or l i d ≡ a

  abbrev pub Alike : List A → Type 0
  Alike l = Are (get_or l 0 d) l

module _ {A : Type 0} (eq : Discrete A) (d : A) where
  -- both decided
  unfoldable pub are_decided : (a : A) (l : List A) → Dec (Are d a l)
  are_decided a [] = yes (λ i h. absurd (not-suc-le-zero h))
  are_decided a (x ∷ l) = go (eq x a) (are_decided a l)
    where
      go : Dec (x ≡ a) → Dec (Are d a l) → Dec (Are d a (x ∷ l))
      go (yes p) (yes q) = yes all
        where
          all : Are d a (x ∷ l)
          all zero h = p
          all (suc i) h = q i (le_of_suc-le-suc h)
      go (yes p) (no q) = no (λ f. q (λ i h. f (suc i) (omega arith)))
      go (no p) e = no (λ f. p (f zero (omega arith)))

  unfoldable pub alike_decided : (l : List A) → Dec (Alike d l)
  unfolding are_decided
  alike_decided l = are_decided (get_or l 0 d) l

module _ {A : Type 0} (d : A) where
  -- x stands in l
  abbrev pub In : A → List A → Type 0
  In x l = (i : ℕ) × (i < length l) × (get_or l i d ≡ x)

module _ {A : Type 0} (eq : Discrete A) (d : A) where
  -- the first place
  unfoldable pub find : (x : A) (l : List A) → Dec (In d x l)
  find x [] = no (λ w. not-suc-le-zero w.1)
  find x (y ∷ l) = go (eq y x) (find x l)
    where
      later : In d x (y ∷ l) → ¬ (y ≡ x) → In d x l
      later (zero, h, e) n = absurd (n e)
      later (suc i, h, e) n = (i, le_of_suc-le-suc h, e)

      go : Dec (y ≡ x) → Dec (In d x l) → Dec (In d x (y ∷ l))
      go (yes p) r = yes (0, omega arith, p)
      go (no p) (yes w) = yes (suc w.0, omega arith, w.2)
      go (no p) (no q) = no (λ w. q (later w p))

-- all numbers below n
unfoldable pub all_decided : {P : ℕ → Type 0} → ((v : ℕ) → Dec (P v)) → (n : ℕ) → Dec ((v : ℕ) → v < n → P v)
all_decided dec zero = yes (λ v h. absurd (not-suc-le-zero h))
all_decided {P} dec (suc n) = go (dec n) (all_decided dec n)
  where
    go : Dec (P n) → Dec ((v : ℕ) → v < n → P v) → Dec ((v : ℕ) → v < suc n → P v)
    go (yes p) (yes q) = yes (λ v h. pass v h (dec_lt v n))
      where
        pass : (v : ℕ) → v < suc n → Dec (v < n) → P v
        pass v h (yes l) = q v l
        pass v h (no l) = let e : v ≡ n = omega arith in rw e p
    go (yes p) (no q) = no (λ f. q (λ v h. f v (omega arith)))
    go (no p) d = no (λ f. p (f n (omega arith)))
