-- The scope's refusal numbers, and the shape of every call's table of refusals. Assumes nothing.
use Rattle.std.specs.Prelude.{◌≡◌, ◌⊎◌, ℕ, ◌<◌, Result, Ok, Err}
use Rattle.settings.specs.declared.refusals.Refusal.{Refusal}
use Rattle.settings.specs.declared.refusals.Refusal.TheVariants.{Damaged, BadPlace, Newer, BadSheet, OtherFeatures, BadArgument, BadSelector, Range, NoRoom, NoSpace, None, BadOpening}

infixr 5 ◌when◌else◌
-- the number of each refusal
abbrev pub number_of : Refusal → ℕ
number_of Damaged = 1
number_of BadPlace = 2
number_of Newer = 3
number_of BadSheet = 4
number_of OtherFeatures = 5
number_of BadArgument = 6
number_of BadSelector = 7
number_of Range = 8
number_of NoRoom = 9
number_of NoSpace = 10
number_of None = 11
number_of BadOpening = 12

-- how a call ends: taken, or refused
abbrev pub Outcome : Type 0
Outcome = Result (Unit {0}) Refusal

abbrev pub Taken : Outcome
Taken = Ok tt

abbrev pub Refused : Refusal → Outcome
Refused x = Err x

-- how a call ended that answers a value where it was taken
abbrev pub ending_of : {A : Type 0} → Result A Refusal → Outcome
ending_of (Ok a) = Ok tt
ending_of (Err x) = Err x

-- the number of an ending: 0 where the call was taken
abbrev pub outcome_number : Outcome → ℕ
outcome_number (Ok u) = 0
outcome_number (Err x) = number_of x

-- a call's table of refusals, read from its front: `Damaged when P else BadPlace when Q else taken`
pub data Cases : Type 1 where
  taken : Cases
  ◌when◌else◌ : Refusal → Type 0 → Cases → Cases

-- the call ends with the first refusal whose condition holds, and is taken where none holds
abbrev pub Ends : Cases → Outcome → Type 0
Ends taken o = o ≡ Taken
Ends (x when P else rest) o = (P → o ≡ Refused x) × ((P → ⊥) → Ends rest o)

-- the refusal stands in the table with a condition that holds
abbrev pub Applies : Cases → Refusal → Type 0
Applies taken y = ⊥
Applies (x when P else rest) y = ((x ≡ y) × P) ⊎ Applies rest y

-- the numbers of the table ascend from above n
abbrev pub Above : ℕ → Cases → Type 0
Above n taken = Unit {0}
Above n (x when P else rest) = (n < number_of x) × Above (number_of x) rest

-- the numbers of the table ascend, so that the first refusal that applies has the lowest number that applies
abbrev pub Ordered : Cases → Type 0
Ordered l = Above 0 l
