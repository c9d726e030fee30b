-- The door of both tables carries a call that it refuses and one that it lets in. Assumes nothing.
use mathlib.Core.Path.{◌≡◌, subst}
use mathlib.Core.List.{List}
use Prim.Native.Nat.{ℕ}
use Rattle.settings.specs.Refusals.{Ends, ◌when◌else◌, taken}
use Rattle.settings.specs.declared.refusals.Refusal.{Refusal}
use Rattle.settings.specs.declared.refusals.Refusal.TheVariants.{Damaged, BadPlace, OtherFeatures}
use Rattle.settings.specs.Refusals.{Outcome}
use Rattle.settings.specs.Refusals.{Taken, Refused}
use Rattle.settings.proofs.Endings.{not_taken}
use Rattle.promises.specs.Words.{sizes}
use Rattle.promises.specs.RuleSound.{RuleSound}
use Rattle.promises.specs.CostSound.{CostSound}
use Rattle.promises.specs.State.{Places}
use Rattle.promises.specs.BothDeeds.{both, both_front}
use Rattle.both_calls.specs.Door.{EntersBoth}

-- stated on what `Ends` computes to: R is what the refusals after the door compute to
module _ {l m v w : List ℕ} {o : Outcome} (e : EntersBoth l m v w o) where
  abbrev Fronted : Outcome → Type 0 → Type 0
  Fronted q R =
      (((RuleSound v × CostSound w) → ⊥) → q ≡ Refused Damaged)
      × ((((RuleSound v × CostSound w) → ⊥) → ⊥) → (((Places 32 l × Places 16 m) → ⊥) → q ≡ Refused BadPlace)
      × ((((Places 32 l × Places 16 m) → ⊥) → ⊥) → ((sizes v ≡ sizes w → ⊥) → q ≡ Refused OtherFeatures) × (((sizes v ≡ sizes w → ⊥) → ⊥) → R)))

  -- what the door refuses is refused, whatever comes after it
  pub turned_away : {x : Refusal} {R : Type 0} → o ≡ Refused x → Fronted (Refused x) R
  turned_away k =
      let f = subst (Ends (Damaged when ((RuleSound v × CostSound w) → ⊥) else both_front l m (both.says (v, w)) taken)) k e.ends in
      (f.0, λ s. ((f.1 s).0, λ p. (((f.1 s).1 p).0, λ c. not_taken (((f.1 s).1 p).1 c))))

  -- past the door the rest decides
  pub let_in : {q : Outcome} {R : Type 0} → o ≡ Taken → R → Fronted q R
  let_in k r = (λ d. absurd (d (e.rules k, e.costs k)), λ s. (λ d. absurd (d (e.rule_places k, e.cost_places k)), λ p. (λ d. absurd (d (e.lists k)), λ c. r)))
