-- The condition of one refusal, read off a table that is written out. Assumes nothing.
use mathlib.Core.Path.{◌≡◌, ap, sym, subst}
use mathlib.Core.Bool.{Bool, true, false}
use mathlib.Core.Logic.{◌⊎◌, inl, inr, ⊎_elim}
use Prim.Native.Nat.{ℕ}
use lib.Dec.{T, eqb, eqb→eq, eqb_refl}
use Rattle.settings.specs.Refusals.{number_of, Cases, taken, ◌when◌else◌, Applies}
use Rattle.settings.specs.declared.refusals.Refusal.{Refusal}
use Rattle.settings.specs.Refusals.{Refused}
use Rattle.settings.proofs.Endings.{one_number}

-- P or R, or R alone
abbrev pub Also : Bool → Type 0 → Type 0 → Type 0
Also true P R = P ⊎ R
Also false P R = R

-- the condition of the refusal with the number n: it computes, and other refusals leave no trace
abbrev pub Row : ℕ → Cases → Type 0
Row n taken = ⊥
Row n (x when P else l) = Also (eqb (number_of x) n) P (Row n l)

module _ (P R : Type 0) where
  here : (b : Bool) → T b → P → Also b P R
  here true t p = inl p
  here false t p = absurd t

  later : (b : Bool) → R → Also b P R
  later true r = inr r
  later false r = r

  apart : (A : Type 0) (b : Bool) → (T b → P → A) → (R → A) → Also b P R → A
  apart A true f g a = ⊎_elim (f tt) g a
  apart A false f g a = g a

same_refusal : (x y : Refusal) → number_of x ≡ number_of y → x ≡ y
same_refusal x y e = let h : Refused x ≡ Refused y = one_number e in cc

-- the condition holds exactly if the refusal applies
pub applies_row : (l : Cases) (x : Refusal) → Applies l x → Row (number_of x) l
applies_row taken x a = a
applies_row (y when P else l) x a = ⊎_elim
    (λ h. here P (Row (number_of x) l) (eqb (number_of y) (number_of x)) (subst (λ (m : ℕ). T (eqb m (number_of x))) (ap number_of (sym h.0)) (eqb_refl (number_of x))) h.1)
    (λ h. later P (Row (number_of x) l) (eqb (number_of y) (number_of x)) (applies_row l x h))
    a

pub row_applies : (l : Cases) (x : Refusal) → Row (number_of x) l → Applies l x
row_applies taken x r = r
row_applies (y when P else l) x r =
    apart P (Row (number_of x) l) (((y ≡ x) × P) ⊎ Applies l x) (eqb (number_of y) (number_of x))
    (λ t p. inl (same_refusal y x (eqb→eq (number_of y) (number_of x) t), p)) (λ q. inr (row_applies l x q)) r
