-- Laws of a call's table of refusals: how to meet it, and that it decides the ending. Assumes nothing.
use mathlib.Core.Path.{◌≡◌, refl, sym, ap, ◌∙◌}
use Prim.Native.Nat.{ℕ, ◌≤◌}
use native.Mathlib.Omega.{arith}
use native.Mathlib.Decide.{ℕ_discrete}
use lib.ListN.{get_or}
use mathlib.Core.List.{List, [], ◌∷◌}
use Rattle.settings.specs.declared.refusals.Refusal.{Refusal}
use Rattle.settings.specs.declared.refusals.Refusal.TheVariants.{Damaged, BadPlace, Newer, BadSheet, OtherFeatures, BadArgument, BadSelector, Range, NoRoom, NoSpace, None, BadOpening}
use Rattle.std.specs.Prelude.{Ok, Err}
use Rattle.settings.specs.Refusals.{number_of, Outcome, Taken, Refused, outcome_number, Cases, taken, ◌when◌else◌, Ends}

-- `Ends (x when P else rest)` is met at `Refused x` where P holds. Stated on what `Ends` computes to, with Rest for `Ends rest`, so that a use writes nothing out
pub stop : {x : Refusal} {P Rest : Type 0} → P → (P → Refused x ≡ Refused x) × ((P → ⊥) → Rest)
stop p = (λ q. refl, λ n. absurd (n p))

-- and by what meets the rest, where P does not hold
pub pass : {x : Refusal} {P Rest : Type 0} {o : Outcome} → (P → ⊥) → Rest → (P → o ≡ Refused x) × ((P → ⊥) → Rest)
pass n e = (λ p. absurd (n p), λ m. e)

-- a call is not both taken and refused
pub not_taken : {A : Type 0} {x : Refusal} → Refused x ≡ Taken → A
not_taken e = let z : ◌≡◌ {A = ℕ} 0 1 = cc in absurd (omega arith)

pub not_refused : {A : Type 0} {x : Refusal} → Taken ≡ Refused x → A
not_refused e = not_taken (sym e)

-- there are twelve refusals
pub number_most : (x : Refusal) → number_of x ≤ 12
number_most Damaged = omega arith
number_most BadPlace = omega arith
number_most Newer = omega arith
number_most BadSheet = omega arith
number_most OtherFeatures = omega arith
number_most BadArgument = omega arith
number_most BadSelector = omega arith
number_most Range = omega arith
number_most NoRoom = omega arith
number_most NoSpace = omega arith
number_most None = omega arith
number_most BadOpening = omega arith

-- endings are told apart by their numbers
endings : List Outcome
endings =
    Taken ∷ Refused Damaged ∷ Refused BadPlace ∷ Refused Newer ∷ Refused BadSheet ∷ Refused OtherFeatures ∷ Refused BadArgument ∷ Refused BadSelector ∷ Refused Range
    ∷ Refused NoRoom ∷ Refused NoSpace ∷ Refused None ∷ Refused BadOpening ∷ []

refusal_back : (x : Refusal) → get_or endings (number_of x) Taken ≡ Refused x
unfolding endings
refusal_back Damaged = refl
refusal_back BadPlace = refl
refusal_back Newer = refl
refusal_back BadSheet = refl
refusal_back OtherFeatures = refl
refusal_back BadArgument = refl
refusal_back BadSelector = refl
refusal_back Range = refl
refusal_back NoRoom = refl
refusal_back NoSpace = refl
refusal_back None = refl
refusal_back BadOpening = refl

outcome_back : (o : Outcome) → get_or endings (outcome_number o) Taken ≡ o
unfolding endings
outcome_back (Ok u) = refl
outcome_back (Err x) = refusal_back x

pub one_number : {o u : Outcome} → outcome_number o ≡ outcome_number u → o ≡ u
one_number {o} {u} e = sym (outcome_back o) ∙ ap (λ (n : ℕ). get_or endings n Taken) e ∙ outcome_back u

pub outcome_decided : (o u : Outcome) → Dec (o ≡ u)
outcome_decided o u = go (ℕ_discrete (outcome_number o) (outcome_number u))
  where
    go : Dec (outcome_number o ≡ outcome_number u) → Dec (o ≡ u)
    go (yes e) = yes (one_number e)
    go (no n) = no (λ e. n (ap outcome_number e))

-- the table decides how the call ends
pub ends_unique : (l : Cases) (o u : Outcome) → Ends l o → Ends l u → o ≡ u
ends_unique taken o u e f = e ∙ sym f
ends_unique (x when P else rest) o u e f = go (outcome_decided o u) (λ n. ends_unique rest o u (e.1 n) (f.1 n))
  where
    go : Dec (o ≡ u) → ((P → ⊥) → o ≡ u) → o ≡ u
    go (yes q) i = q
    go (no n) i = i (λ p. n (e.0 p ∙ sym (f.0 p)))
