-- Contract between layers: a cost worked out and put into a place, word for word. Assumes nothing.
use Rattle.std.specs.Prelude.{List, ℕ}
use Rattle.theory.specs.Functions.{Agree}
use Rattle.theory.specs.Costs.{Cost}
use Rattle.settings.specs.Refusals.{Cases, ◌when◌else◌, taken}
use Rattle.settings.specs.declared.refusals.Refusal.TheVariants.{Range, NoRoom}
use Rattle.settings.specs.Refusals.{Outcome}
use Rattle.cost_calls.specs.Writing.{Writes}
use Rattle.cost_settling.specs.Settling.{Exceeds}
use Rattle.promises.specs.Range.{LeavesRange}
use Rattle.promises.specs.Words.{sizes}

-- the cost g is put into a place: RANGE where it leaves its range, even in a full table, then NO ROOM
abbrev pub put_cases : Cost → List ℕ → Cases
put_cases g w = Range when (LeavesRange (sizes w) g) else NoRoom when (Exceeds w g) else taken

-- the cost g, worked out and put into place p: written, whichever way the cost is said
pub record Joins (p : ℕ) (g : Cost) (w w' : List ℕ) (o : Outcome) : Type 0 where
  pub joins : (h : Cost) → Agree (sizes w) g h → Writes (put_cases h w) p h w w' o
