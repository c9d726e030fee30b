-- A table as plain functions: a capacity, a feature list, a function for each place. Assumes nothing.
use Rattle.std.specs.Prelude.{List, [], ◌∷◌, ◌++◌, ℕ, ◌<◌, length, get_or, set}
use Rattle.theory.specs.Kind.{Kind}
use Rattle.theory.specs.Functions.{Fun, zero_fun}
use Rattle.theory.specs.Rests.{Counts}
use Rattle.settings.specs.Refusals.{Cases, ◌when◌else◌, taken}
use Rattle.settings.specs.declared.refusals.Refusal.TheVariants.{BadPlace, NoRoom}

module _ (K : Kind) where
  pub record State : Type 0 where
    pub capacity : ℕ
    pub list : List ℕ
    pub places : List (Fun K)

module _ {K : Kind} where
  -- the state of a capacity, a list and the functions of the places
  abbrev pub state : ℕ → List ℕ → List (Fun K) → State K
  state cap S gs = record { capacity = cap; list = S; places = gs }

  -- the function on place p
  abbrev pub on : State K → ℕ → Fun K
  on z p = get_or z.places p zero_fun

  -- the function g put on place p, the other places kept
  abbrev pub put : ℕ → Fun K → State K → State K
  put p g z = state z.capacity z.list (set z.places p g)

  -- NO ROOM: the distinct rests of all places before the call, the old destination too, with those of the result g are more than the capacity
  pub record Outnumber (z : State K) (g : Fun K) : Type 0 where
    pub number : ℕ
    pub counts : Counts z.list (z.places ++ (g ∷ [])) number
    pub more : z.capacity < number

  -- the end of the refusals of a call that puts g on a place
  abbrev pub room_cases : Fun K → State K → Cases
  room_cases g z = NoRoom when (Outnumber z g) else taken

-- each of the list is one of n places
pub record Places (n : ℕ) (l : List ℕ) : Type 0 where
  pub each : (j : ℕ) → j < length l → get_or l j 0 < n

-- THE DOOR: after DAMAGED, the front of every table of refusals: BAD PLACE where one of the places l that the call touches is none of n
abbrev pub front : ℕ → List ℕ → Cases → Cases
front n l rest = BadPlace when (Places n l → ⊥) else rest
