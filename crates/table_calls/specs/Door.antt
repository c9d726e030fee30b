-- Contract between layers: THE DOOR, the one test of every call of a table: that it is sound, and that there are the places it touches. Assumes nothing.
use Rattle.std.specs.Prelude.{◌≡◌, Bool, true, false, List, ℕ}
use Rattle.settings.specs.Refusals.{Ends, ◌when◌else◌, taken}
use Rattle.settings.specs.declared.refusals.Refusal.TheVariants.{Damaged, BadPlace}
use Rattle.settings.specs.Refusals.{Outcome}
use Rattle.settings.specs.Refusals.{Taken, Refused}
use Rattle.promises.specs.State.{Places, front}

-- of a table of n places w, the places l of a call tested
pub record Enters (Sound : List ℕ → Type 0) (n : ℕ) (l w : List ℕ) (o : Outcome) : Type 0 where
  pub ends : Ends (Damaged when (Sound w → ⊥) else front n l taken) o
  pub sound : o ≡ Taken → Sound w
  pub there : o ≡ Taken → Places n l

-- how a call ends whose tables are sound, and whose places are there, as two tests tell
abbrev pub Admits : Bool → Bool → Outcome → Type 0
Admits false b o = o ≡ Refused Damaged
Admits true false o = o ≡ Refused BadPlace
Admits true true o = o ≡ Taken
