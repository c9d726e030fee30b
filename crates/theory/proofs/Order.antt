-- `Before` is a strict order of the settings of one length. Assumes nothing.
use mathlib.Core.Path.{◌≡◌, refl, sym, ap, subst}
use mathlib.Core.Logic.{◌⊎◌, inl, inr, ⊎_elim}
use mathlib.Core.List.{List, [], ◌∷◌}
use Prim.Native.Nat.{ℕ, suc, ◌<◌}
use native.Mathlib.Decide.{dec_lt}
use native.Mathlib.Omega.{arith}
use lib.ListN.{length}
use Rattle.theory.specs.Settings.{Before, sooner, later}

pub before_length : {s t : List ℕ} → Before s t → length s ≡ length t
before_length (sooner h e) = ap suc e
before_length (later b) = ap suc (before_length b)

step : {x y : ℕ} {s t : List ℕ} → x ≡ y → Before s t → Before (x ∷ s) (y ∷ t)
step {x} {y} {s} {t} e b = subst (λ (n : ℕ). Before (x ∷ s) (n ∷ t)) e (later b)

-- one of two settings of one length is the first, or they are the same
pub before_total : (s t : List ℕ) → length s ≡ length t → (s ≡ t) ⊎ (Before s t ⊎ Before t s)
before_total [] [] e = inl refl
before_total [] (y ∷ t) e = absurd (omega arith)
before_total (x ∷ s) [] e = absurd (omega arith)
before_total (x ∷ s) (y ∷ t) e = go (dec_lt x y) (dec_lt y x) (before_total s t (omega arith))
  where
    l : length s ≡ length t
    l = omega arith

    go : Dec (x < y) → Dec (y < x) → (s ≡ t) ⊎ (Before s t ⊎ Before t s) → ((x ∷ s) ≡ (y ∷ t)) ⊎ (Before (x ∷ s) (y ∷ t) ⊎ Before (y ∷ t) (x ∷ s))
    go (yes a) d i = inr (inl (sooner a l))
    go (no a) (yes b) i = inr (inr (sooner b (sym l)))
    go (no a) (no b) i =
        let q : x ≡ y = omega arith in
        ⊎_elim (λ p. inl (cc)) (λ o. inr (⊎_elim (λ p. inl (step q p)) (λ p. inr (step (sym q) p)) o)) i
