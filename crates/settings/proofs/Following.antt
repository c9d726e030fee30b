-- `next_of` is the next setting in dictionary order: a setting after it, the first after it, and none exactly after the last. Assumes nothing.
use mathlib.Core.Path.{◌≡◌, refl, sym, ap, ◌∙◌, subst}
use mathlib.Core.Bool.{Bool, true, false}
use mathlib.Core.Logic.{◌⊎◌, inl, inr, ⊎_elim, ◌↔◌}
use mathlib.Core.Option.{Option, some, none}
use mathlib.Core.List.{List, [], ◌∷◌}
use Prim.Native.Nat.{ℕ, zero, suc, ◌+◌, ◌≤◌, ◌<◌}
use native.Mathlib.Nat.{eq-or-lt_of_le}
use native.Mathlib.Omega.{arith}
use lib.Dec.{ltb}
use lib.ListN.{length, replicate, length-replicate}
use borrow.Author.Tests.{lt-ltb, ltb-true}
use Rattle.theory.specs.Settings.{Valid, Before, sooner, later}
use Rattle.settings.specs.Step.{next_of, grow, kept_if}

-- what is said of a next setting, where there is one
abbrev Holds : (List ℕ → Type 0) → Option (List ℕ) → Type 0
Holds P (some t) = P t
Holds P none = Unit {0}

-- `grow` gives only what P holds of, if P holds of the grown value with zeros and of the value with what came next
grown : (P : List ℕ → Type 0) (b : Bool) (t : List ℕ) → (b ≡ true → P t) → Holds P (kept_if b (some t))
grown P true t h = h refl
grown P false t h = tt

module _ (P Q : List ℕ → Type 0) (n v m : ℕ) where
  grows : (w : Option (List ℕ)) → Holds Q w → ((t : List ℕ) → Q t → P (v ∷ t)) → (v + 1 < n → P ((v + 1) ∷ replicate m 0)) → Holds P (grow n v m w)
  grows (some t) q f g = f t q
  grows none q f g = grown P (ltb (v + 1) n) ((v + 1) ∷ replicate m 0) (λ e. g (ltb-true (v + 1) n e))

held : (P : List ℕ → Type 0) (w : Option (List ℕ)) (t : List ℕ) → w ≡ some t → Holds P w → P t
held P (some u) t e h = let q : u ≡ t = cc in subst P q h
held P none t e h = let z : ◌≡◌ {A = ℕ} 0 1 = cc in absurd (omega arith)

goes_later : (S s : List ℕ) → Holds (Before s) (next_of S s)
unfolding next_of
goes_later [] s = tt
goes_later (n ∷ ns) [] = tt
goes_later (n ∷ ns) (v ∷ s) =
    let h : v < v + 1 = omega arith in
    grows (Before (v ∷ s)) (Before s) n v (length s) (next_of ns s) (goes_later ns s)
    (λ t b. later b)
    (λ l. sooner h (sym (length-replicate {A = ℕ} (length s) 0)))

-- the next setting comes later
pub next_later : (S s t : List ℕ) → next_of S s ≡ some t → Before s t
next_later S s t e = held (Before s) (next_of S s) t e (goes_later S s)

zeros_valid_too : (S s : List ℕ) → Valid S s → Valid S (replicate (length s) 0)
zeros_valid_too [] [] h = tt
zeros_valid_too [] (v ∷ s) h = absurd h
zeros_valid_too (n ∷ ns) [] h = absurd h
zeros_valid_too (n ∷ ns) (v ∷ s) h = (omega (arith, h.0), zeros_valid_too ns s h.1)

goes_valid : (S s : List ℕ) → Valid S s → Holds (Valid S) (next_of S s)
unfolding next_of
goes_valid [] s h = tt
goes_valid (n ∷ ns) [] h = tt
goes_valid (n ∷ ns) (v ∷ s) h =
    grows (Valid (n ∷ ns)) (Valid ns) n v (length s) (next_of ns s) (goes_valid ns s h.1)
    (λ t b. (h.0, b))
    (λ l. (l, zeros_valid_too ns s h.1))

-- the next setting is one of the features
pub next_valid : (S s t : List ℕ) → Valid S s → next_of S s ≡ some t → Valid S t
next_valid S s t h e = held (Valid S) (next_of S s) t e (goes_valid S s h)

-- u is what is given, or comes after it
abbrev From : Option (List ℕ) → List ℕ → Type 0
From (some t) u = (t ≡ u) ⊎ Before t u
From none u = ⊥

from_zeros : (u : List ℕ) → From (some (replicate (length u) 0)) u
from_zeros [] = inl refl
from_zeros (zero ∷ u) = ⊎_elim (λ e. inl (ap (λ (t : List ℕ). 0 ∷ t) e)) (λ b. inr (later b)) (from_zeros u)
from_zeros (suc y ∷ u) = let h : 0 < suc y = omega arith in inr (sooner h (length-replicate {A = ℕ} (length u) 0))

from_tail : (n x m : ℕ) (w : Option (List ℕ)) (u : List ℕ) → From w u → From (grow n x m w) (x ∷ u)
from_tail n x m (some t) u (inl e) = inl (ap (λ (l : List ℕ). x ∷ l) e)
from_tail n x m (some t) u (inr b) = inr (later b)
from_tail n x m none u h = absurd h

goes_long : (S s : List ℕ) → Holds (λ t. length t ≡ length s) (next_of S s)
unfolding next_of
goes_long [] s = tt
goes_long (n ∷ ns) [] = tt
goes_long (n ∷ ns) (v ∷ s) =
    grows (λ t. length t ≡ suc (length s)) (λ t. length t ≡ length s) n v (length s) (next_of ns s) (goes_long ns s)
    (λ t e. ap suc e)
    (λ l. ap suc (length-replicate {A = ℕ} (length s) 0))

-- the next setting is as long
pub next_long : (S s t : List ℕ) → next_of S s ≡ some t → length t ≡ length s
next_long S s t e = held (λ t. length t ≡ length s) (next_of S s) t e (goes_long S s)

from_head : (n x y : ℕ) (s u : List ℕ) (w : Option (List ℕ)) → x < y → y < n → length s ≡ length u → Holds (λ t. length t ≡ length s) w → From (grow n x (length s) w) (y ∷ u)
from_head n x y s u (some t) h k e l = inr (sooner h (l ∙ e))
from_head n x y s u none h k e l =
    rw (lt-ltb (x + 1) n (omega arith), e)
    (⊎_elim
    (λ q. ⊎_elim (λ z. inl (ap (λ (t : List ℕ). (x + 1) ∷ t) z ∙ ap (λ (m : ℕ). m ∷ u) q)) (λ b. inr (subst (λ (m : ℕ). Before ((x + 1) ∷ replicate (length u) 0) (m ∷ u)) q (later b))) (from_zeros u))
    (λ q. inr (sooner q (length-replicate {A = ℕ} (length u) 0)))
    (eq-or-lt_of_le low))
  where
    low : x + 1 ≤ y
    low = omega arith

goes_least : (S : List ℕ) {s u : List ℕ} → Before s u → Valid S u → From (next_of S s) u
unfolding next_of
goes_least [] (sooner k e) h = absurd h
goes_least [] (later b) h = absurd h
goes_least (n ∷ ns) (sooner {x = x} {y = y} {xs = s} {ys = u} k e) h = from_head n x y s u (next_of ns s) k h.0 e (goes_long ns s)
goes_least (n ∷ ns) (later {x = x} {xs = s} {ys = u} b) h = from_tail n x (length s) (next_of ns s) u (goes_least ns b h.1)

-- nothing lies between: every setting after s is the next one, or comes after it
pub next_least : (S s t u : List ℕ) → Valid S u → Before s u → next_of S s ≡ some t → (t ≡ u) ⊎ Before t u
next_least S s t u h b e = subst (λ (w : Option (List ℕ)). From w u) e (goes_least S b h)

-- there is no next setting exactly if no setting of the features comes after s
pub last_exactly : (S s : List ℕ) → Valid S s → (next_of S s ≡ none) ↔ ((u : List ℕ) → Valid S u → Before s u → ⊥)
last_exactly S s h = (λ e u g b. subst (λ (w : Option (List ℕ)). From w u) e (goes_least S b g), λ f. go (next_of S s) refl f)
  where
    go : (w : Option (List ℕ)) → next_of S s ≡ w → ((u : List ℕ) → Valid S u → Before s u → ⊥) → next_of S s ≡ none
    go (some t) e f = absurd (f t (next_valid S s t h e) (next_later S s t e))
    go none e f = e
