-- The first setting with a number: there is at most one, and how the first value of a setting decides it. Assumes nothing.
use mathlib.Core.Path.{◌≡◌, refl, sym, ap, subst, ◌∙◌}
use mathlib.Core.Logic.{◌⊎◌, inl, inr, ⊎_elim}
use mathlib.Core.List.{List, [], ◌∷◌, head-eq_of_cons-eq, tail-eq_of_cons-eq}
use Prim.Native.Nat.{ℕ, suc, ◌+◌, ◌≤◌, ◌<◌}
use native.Mathlib.Decide.{dec_lt}
use native.Mathlib.Omega.{arith}
use Rattle.theory.specs.Settings.{Valid, Before, sooner, later}
use Rattle.theory.specs.Functions.{held}
use Rattle.theory.specs.Diagrams.{next, value}
use Rattle.theory.specs.Rules.{Branch, Node, Rule}
use Rattle.theory.specs.First.{First, FirstFrom, From, NoneFrom}
use Rattle.theory.specs.Counted.{Given}
use Rattle.theory.proofs.Ranges.{valid_length}
use Rattle.theory.proofs.Rank.{rank, rank_order}
use Rattle.theory.proofs.Values.{value_next}

-- two settings, each at or after the other, are the same
pub from_both : (S : List ℕ) {s t : List ℕ} → Valid S s → Valid S t → From s t → From t s → s ≡ t
from_both S a b (inl e) q = e
from_both S a b (inr o) (inl e) = sym e
from_both S {s} {t} a b (inr o) (inr q) =
    let h : rank S s < rank S t = rank_order S o a b in
    let l : rank S t < rank S s = rank_order S q b a in
    absurd (omega arith)

-- THE FIRST IS ONE
pub first_unique : {S : List ℕ} {g : Rule} {x : ℕ} {s t u : List ℕ} → FirstFrom S g x s t → FirstFrom S g x s u → t ≡ u
first_unique {S} {t = t} {u = u} a b =
    from_both S a.valid b.valid (a.least u b.valid b.gives b.from) (b.least t a.valid a.gives a.from)

-- there is a first, or there is none
pub first_or_none : {S : List ℕ} {g : Rule} {x : ℕ} {s t : List ℕ} → FirstFrom S g x s t → NoneFrom S g x s → ⊥
first_or_none {t = t} a n = n.none t a.valid a.gives a.from

-- ---- by the first value
-- what the first values of two settings say of their order
abbrev Heads : List ℕ → List ℕ → Type 0
Heads (v ∷ s) (y ∷ u) = ((v ≡ y) × From s u) ⊎ (v < y)
Heads (v ∷ s) [] = ⊥
Heads [] u = Unit {0}

heads_before : {s u : List ℕ} → Before s u → Heads s u
heads_before (sooner h e) = inr h
heads_before (later b) = inl (refl, inr b)

heads : (v y : ℕ) (s u : List ℕ) → From (v ∷ s) (y ∷ u) → ((v ≡ y) × From s u) ⊎ (v < y)
heads v y s u (inl e) = inl (head-eq_of_cons-eq e, inl (tail-eq_of_cons-eq e))
heads v y s u (inr b) = heads_before b

pub from_later : (v : ℕ) {s u : List ℕ} → From s u → From (v ∷ s) (v ∷ u)
from_later v (inl e) = inl (ap (λ (t : List ℕ). v ∷ t) e)
from_later v (inr b) = inr (later b)

module _ (n : ℕ) (ns : List ℕ) (g : Rule) (x : ℕ) where
  -- a setting with the same first value
  from_same : (v y : ℕ) (t u : List ℕ) → v ≡ y → (g (y ∷ u)).end ≡ x → ((held v g u).end ≡ x → From t u) → From (v ∷ t) (y ∷ u)
  from_same v y t u e p f =
      subst (λ (z : ℕ). From (v ∷ t) (z ∷ u)) e (from_later v (f (subst (λ (z : ℕ). (g (z ∷ u)).end ≡ x) (sym e) p)))

  from_greater : (v y : ℕ) (t u : List ℕ) → v < y → Valid ns t → Valid ns u → From (v ∷ t) (y ∷ u)
  from_greater v y t u h a b = inr (sooner h (valid_length ns t a ∙ sym (valid_length ns u b)))

  given_at : (y : ℕ) (u : List ℕ) → Valid (n ∷ ns) (y ∷ u) → (g (y ∷ u)).end ≡ x → Given ns (held y g) x
  given_at y u h p = record { setting = u; valid = h.1; holds = p }

  -- the first of all starts with the smallest value that leads to x
  pub first_smallest : (w : ℕ) (t : List ℕ) → w < n → ((y : ℕ) → y < w → Given ns (held y g) x → ⊥) → First ns (held w g) x t → First (n ∷ ns) g x (w ∷ t)
  first_smallest w t h f r = record { valid = (h, r.valid); gives = r.gives; least = least }
    where
      least : (u : List ℕ) → Valid (n ∷ ns) u → (g u).end ≡ x → From (w ∷ t) u
      least [] a p = absurd a
      least (y ∷ u) a p = go (dec_lt y w) (dec_lt w y)
        where
          go : Dec (y < w) → Dec (w < y) → From (w ∷ t) (y ∷ u)
          go (yes l) d = absurd (f y l (given_at y u a p))
          go (no l) (yes m) = from_greater w y t u m r.valid a.1
          go (no l) (no m) = from_same w y t u (omega arith) p (λ q. r.least u a.1 q)

  -- at or after s with its first value, if one is there
  pub first_same : (v : ℕ) (s t : List ℕ) → v < n → FirstFrom ns (held v g) x s t → FirstFrom (n ∷ ns) g x (v ∷ s) (v ∷ t)
  first_same v s t h r = record { valid = (h, r.valid); gives = r.gives; from = from_later v r.from; least = least }
    where
      least : (u : List ℕ) → Valid (n ∷ ns) u → (g u).end ≡ x → From (v ∷ s) u → From (v ∷ t) u
      least [] a p o = absurd a
      least (y ∷ u) a p o = ⊎_elim
          (λ e. from_same v y t u e.0 p (λ q. r.least u a.1 q e.1))
          (λ l. from_greater v y t u l r.valid a.1)
          (heads v y s u o)

  module _ (v : ℕ) (s : List ℕ) (r : NoneFrom ns (held v g) x s) where
    -- else a greater first value
    above : (y : ℕ) (u : List ℕ) → Valid (n ∷ ns) (y ∷ u) → (g (y ∷ u)).end ≡ x → From (v ∷ s) (y ∷ u) → v < y
    above y u a p o = ⊎_elim
        (λ e. absurd (r.none u a.1 (subst (λ (z : ℕ). (g (z ∷ u)).end ≡ x) (sym e.0) p) e.1))
        (λ l. l)
        (heads v y s u o)

    -- the smallest greater one that leads to x, and then the first of all
    pub first_greater : (w : ℕ) (t : List ℕ) → Valid ns s → v < w → w < n → ((y : ℕ) → v + 1 ≤ y → y < w → Given ns (held y g) x → ⊥) → First ns (held w g) x t
        → FirstFrom (n ∷ ns) g x (v ∷ s) (w ∷ t)
    first_greater w t b l h f q =
        record {
          valid = (h, q.valid);
          gives = q.gives;
          from = from_greater v w s t l b q.valid;
          least = least;
        }
      where
        least : (u : List ℕ) → Valid (n ∷ ns) u → (g u).end ≡ x → From (v ∷ s) u → From (w ∷ t) u
        least [] a p o = absurd a
        least (y ∷ u) a p o = go (above y u a p o) (dec_lt y w) (dec_lt w y)
          where
            go : v < y → Dec (y < w) → Dec (w < y) → From (w ∷ t) (y ∷ u)
            go k (yes m) d = absurd (f y (omega arith) m (given_at y u a p))
            go k (no m) (yes e) = from_greater w y t u e q.valid a.1
            go k (no m) (no e) = from_same w y t u (omega arith) p (λ z. q.least u a.1 z)

    pub none_greater : ((y : ℕ) → v + 1 ≤ y → y < n → Given ns (held y g) x → ⊥) → NoneFrom (n ∷ ns) g x (v ∷ s)
    none_greater f = record { none = none }
      where
        none : (u : List ℕ) → Valid (n ∷ ns) u → (g u).end ≡ x → From (v ∷ s) u → ⊥
        none [] a p o = absurd a
        none (y ∷ u) a p o = let k : v < y = above y u a p o in f y (omega arith) a.0 (given_at y u a p)

-- ---- no feature is left
module _ (g : Rule) (x : ℕ) where
  least_end : (g []).end ≡ x → (u : List ℕ) → Valid [] u → From [] u
  least_end p [] h = inl refl
  least_end p (v ∷ u) h = absurd h

  pub first_end : (g []).end ≡ x → First [] g x []
  first_end p = record { valid = tt; gives = p; least = λ u h q. least_end p u h }

  pub first_from_end : (g []).end ≡ x → FirstFrom [] g x [] []
  first_from_end p = record { valid = tt; gives = p; from = inl refl; least = λ u h q o. least_end p u h }

  pub none_end : ((g []).end ≡ x → ⊥) → NoneFrom [] g x []
  none_end f = record { none = none }
    where
      none : (u : List ℕ) → Valid [] u → (g u).end ≡ x → From [] u → ⊥
      none [] h p o = f p
      none (v ∷ u) h p o = h

  pub given_end : Given [] g x → (g []).end ≡ x
  given_end r = go r.setting r.valid r.holds
    where
      go : (u : List ℕ) → Valid [] u → (g u).end ≡ x → (g []).end ≡ x
      go [] h p = p
      go (v ∷ u) h p = absurd h

-- ---- of a branch
-- a branch with its first feature held means the branch one step on
pub held_next : (N : List Node) (k : ℕ) (b : Branch) (v : ℕ) → held v (value N k b) ≡ value N (suc k) (next N k b v)
held_next N k b v = λ i s. value_next N k b v s i
