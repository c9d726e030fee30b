-- Contract between layers: the promise of calls that write into places in a row, NO ROOM, and the end of every call that builds, for every kind. Assumes nothing.
use Rattle.std.specs.Prelude.{◌≡◌, List, [], ◌∷◌, ◌++◌, map, ℕ, ◌<◌, length, get_or}
use Rattle.std.proofs.Math.Option.{Option, none, some}
use Rattle.theory.specs.Diagrams.{Branch, meaning}
use Rattle.theory.specs.Functions.{Agree, Fun, zero_fun}
use Rattle.theory.specs.Kind.{Kind}
use Rattle.theory.specs.Tally.{tally}
use Rattle.settings.specs.Refusals.{Cases, Ends, ◌when◌else◌, taken}
use Rattle.settings.specs.declared.refusals.Refusal.{Refusal}
use Rattle.settings.specs.declared.refusals.Refusal.TheVariants.{NoRoom}
use Rattle.settings.specs.Refusals.{Outcome}
use Rattle.settings.specs.Refusals.{Taken, Refused}
use Rattle.table_words.specs.Table.{Table, nodes}
use Rattle.table_words.specs.Picture.{Becomes}
use Rattle.table_records.specs.Changes.{Rolled}
use Rattle.promises.specs.Words.{capacity, sizes}

-- functions that agree one by one
pub record Agrees {K : Kind} (S : List ℕ) (gs hs : List (Fun K)) : Type 0 where
  pub long : length gs ≡ length hs
  pub each : (i : ℕ) → i < length gs → Agree S (get_or gs i zero_fun) (get_or hs i zero_fun)

-- one branch is a list of one
abbrev pub alone : {K : Kind} → Option (Branch K) → Option (List (Branch K))
alone (some b) = some (b ∷ [])
alone none = none

module _ {K : Kind} (T : Table K) where
  -- a call with the refusals l that writes the functions gs into the places from p on makes w into w' and ends as o
  pub record Writes (l : Cases) (p : ℕ) (gs : List (Fun K)) (w w' : List ℕ) (o : Outcome) : Type 0 where
    pub ends : Ends l o
    pub becomes : o ≡ Taken → Becomes T p gs w w'
    pub refused : (x : Refusal) → o ≡ Refused x → w' ≡ w

  -- NO ROOM: the distinct rests of all places of the table before the call with those of the results exceed its capacity
  abbrev pub Exceeds : List ℕ → List (Fun K) → Type 0
  Exceeds w gs = capacity w < tally (sizes w) (T.said w ++ gs)

  -- the functions gs, built and settled into the places from p on: written, whichever way the functions are said
  pub record Puts (p : ℕ) (gs : List (Fun K)) (w w' : List ℕ) (o : Outcome) : Type 0 where
    pub puts : (hs : List (Fun K)) → Agrees (sizes w) gs hs → Writes (NoRoom when (Exceeds w hs) else taken) p hs w w' o

-- the end of a call that built: the branches' functions stand in the places from p on, or the nodes from n on are taken away
abbrev pub Settled : {K : Kind} → Table K → ℕ → ℕ → List ℕ → List ℕ → Option (List (Branch K)) → Outcome → Type 0
Settled T p n w w' (some bs) o = (o ≡ Taken) × (Becomes T p (map (meaning (nodes T w)) bs) w w')
Settled T p n w w' none o = (o ≡ Refused NoRoom) × (Rolled w w' n)
