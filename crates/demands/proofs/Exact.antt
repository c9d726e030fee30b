-- Every ordered table of stable conditions gives the lowest number that applies, never another, and exactly when it applies. Assumes nothing.
use mathlib.Core.Path.{◌≡◌, refl, sym, ap, subst}
use mathlib.Core.Logic.{◌⊎◌, inl, inr, ⊎_elim}
use Prim.Native.Nat.{ℕ, ◌<◌}
use native.Mathlib.Omega.{arith}
use Rattle.settings.specs.Refusals.{number_of, outcome_number, Cases, taken, ◌when◌else◌, Ends, Applies, Above, Ordered}
use Rattle.settings.specs.declared.refusals.Refusal.{Refusal}
use Rattle.settings.specs.Refusals.{Outcome}
use Rattle.settings.specs.Refusals.{Taken, Refused}
use Rattle.settings.proofs.Endings.{not_taken, not_refused, outcome_decided}
use Rattle.demands.specs.Exact.{LowerNone, Exact}
use Rattle.demands.proofs.Firm.{Firm}

-- ---- numbers
-- refusals with one number are one
one_refusal : (x y : Refusal) → (x ≡ y) ⊎ (x ≡ y → ⊥)
one_refusal x y = go (outcome_decided (Refused x) (Refused y))
  where
    go : Dec (Refused x ≡ Refused y) → (x ≡ y) ⊎ (x ≡ y → ⊥)
    go (yes e) = inl (cc)
    go (no n) = inr (λ e. n (ap Refused e))

one_number : {x y : Refusal} → Refused x ≡ Refused y → number_of x ≡ number_of y
one_number e = ap outcome_number e

-- what stands in a table whose numbers are above n has a number above n
above : (n : ℕ) (l : Cases) → Above n l → (y : Refusal) → Applies l y → n < number_of y
above n taken a y h = absurd h
above n (x when P else l) a y h = ⊎_elim (λ q. omega (arith, a.0, ap number_of q.0)) (λ q. omega (arith, a.0, above (number_of x) l a.1 y q)) h

-- a table whose numbers are above that of x never gives x
never : (x : Refusal) (n : ℕ) (l : Cases) → number_of x ≡ n → Above n l → Ends l (Refused x) → ⊥
never x n taken e a q = not_taken q
never x n (y when P else l) e a q = never x (number_of x) l refl (raise l a.1) (q.1 (λ p. omega (arith, a.0, one_number (q.0 p))))
  where
    raise : (l : Cases) → Above (number_of y) l → Above (number_of x) l
    raise taken b = tt
    raise (z when Q else m) b = (omega (arith, a.0, b.0), b.1)

-- ---- what is given
-- applies
applies : (n : ℕ) (l : Cases) → Above n l → Firm l → (x : Refusal) → Ends l (Refused x) → Applies l x
applies n taken a f x e = not_taken e
applies n (y when P else l) a f x e = go (one_refusal y x) (λ m. applies (number_of y) l a.1 f.1 x (e.1 m))
  where
    go : (y ≡ x) ⊎ (y ≡ x → ⊥) → ((P → ⊥) → Applies l x) → ((y ≡ x) × P) ⊎ Applies l x
    go (inl q) i = inl (q, f.0 (λ m. never x (number_of y) l (ap number_of (sym q)) a.1 (e.1 m)))
    go (inr q) i = inr (i (λ p. let h : Refused x ≡ Refused y = e.0 p in q (cc)))

-- and is the lowest
lowest : (n : ℕ) (l : Cases) → Above n l → (x : Refusal) → Ends l (Refused x) → LowerNone x l
lowest n taken a x e y h q = q
lowest n (z when P else l) a x e y h q = ⊎_elim
    (λ r. omega (arith, h, one_number (e.0 r.1), ap number_of r.0))
    (λ r. lowest (number_of z) l a.1 x (e.1 (λ p. omega (arith, h, one_number (e.0 p), above (number_of z) l a.1 y r))) y h r)
    q

-- what applies and is the lowest is given
given : (n : ℕ) (l : Cases) → Above n l → (x : Refusal) (o : Outcome) → Ends l o → Applies l x → LowerNone x l → o ≡ Refused x
given n taken a x o e h m = absurd h
given n (y when P else l) a x o e h m = ⊎_elim
    (λ q. subst (λ (z : Refusal). o ≡ Refused z) q.0 (e.0 q.1))
    (λ q. given (number_of y) l a.1 x o (e.1 (λ p. m y (above (number_of y) l a.1 x q) (inl (refl, p)))) q (λ z k r. m z k (inr r)))
    h

-- where the call is taken, nothing applies
taken_free : (l : Cases) (x : Refusal) → Ends l Taken → Applies l x → ⊥
taken_free taken x e a = a
taken_free (y when P else rest) x e a =
    let no-P : P → ⊥ = λ p. not_refused (e.0 p) in
    ⊎_elim (λ h. no-P h.1) (λ h. taken_free rest x (e.1 no-P) h) a

-- where nothing applies the call is taken
free : (l : Cases) (o : Outcome) → Ends l o → ((x : Refusal) → Applies l x → ⊥) → o ≡ Taken
free taken o e m = e
free (y when P else l) o e m = free l o (e.1 (λ p. m y (inl (refl, p)))) (λ x h. m x (inr h))

-- THEOREM: what the table says is the scope's sentence
pub exactly : {l : Cases} {o : Outcome} → Ordered l → Firm l → Ends l o → Exact l o
exactly {l} {o} a f e =
    record {
      refused = λ x. (
        (λ q. let g : Ends l (Refused x) = subst (Ends l) q e in (applies 0 l a f x g, lowest 0 l a x g)),
        (λ h. given 0 l a x o e h.0 h.1),
      );
      taken = ((λ q x. taken_free l x (subst (Ends l) q e)), free l o e);
    }
