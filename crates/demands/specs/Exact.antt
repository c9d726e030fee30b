-- The scope's sentence on refusals, of a call's table: the lowest number that applies is given, never another, and exactly when it applies. Assumes nothing.
use Rattle.std.specs.Prelude.{◌≡◌, ◌↔◌, ◌<◌}
use Rattle.settings.specs.Refusals.{number_of, Cases, Applies}
use Rattle.settings.specs.declared.refusals.Refusal.{Refusal}
use Rattle.settings.specs.Refusals.{Outcome}
use Rattle.settings.specs.Refusals.{Taken, Refused}

-- no refusal with a lower number than x applies
abbrev pub LowerNone : Refusal → Cases → Type 0
LowerNone x l = (y : Refusal) → number_of y < number_of x → Applies l y → ⊥

-- THE SENTENCE: refused as x exactly if x applies and nothing lower does; taken exactly if nothing applies
pub record Exact (l : Cases) (o : Outcome) : Type 0 where
  pub refused : (x : Refusal) → (o ≡ Refused x) ↔ (Applies l x × LowerNone x l)
  pub taken : (o ≡ Taken) ↔ ((x : Refusal) → Applies l x → ⊥)
