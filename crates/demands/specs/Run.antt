-- A part of the library: its calls and their deeds; and RUNS of them, on words and on functions. Assumes nothing.
use Rattle.std.specs.Prelude.{List, [], ◌∷◌}
use Rattle.promises.specs.Loan.{Loan}
use Rattle.promises.specs.Deed.{Deed, Meets}
use Rattle.demands.specs.Ground.{Ground, Holds}
use Rattle.demands.specs.Does.{Does, afterwards}

pub record Part : Type 1 where
  pub loan : Loan
  pub basis : Ground loan
  -- each call with its arguments
  pub Call : Type 0
  -- what it does to functions: its function is proved to meet that on words
  pub deed : Call → Deed loan

module _ (P : Part) where
  -- a call that was made, and what it returned
  abbrev pub Event : Type 0
  Event = (c : P.Call) × (P.deed c).Result

  -- A RUN: from words that hold the functions z any calls, refused ones included; the events so far, the last first, and the words that they left
  pub data Run (z : P.loan.Plain) : List Event → P.loan.Words → Type 0 where
    begun : {w : P.loan.Words} → Holds P.basis w z → Run z [] w
    called : {l : List Event} {w w' : P.loan.Words} (c : P.Call) (r : (P.deed c).Result) → Run z l w → Meets (P.deed c) w w' r → Run z ((c, r) ∷ l) w'

  -- THE RUN ON FUNCTIONS: the functions after the events, and that each event is what its call does to the functions that it finds
  abbrev pub ran : P.loan.Plain → List Event → P.loan.Plain
  ran z [] = z
  ran z (e ∷ l) = afterwards P.basis (P.deed e.0) (ran z l) e.1

  abbrev pub Told : P.loan.Plain → List Event → Type 0
  Told z [] = Unit {0}
  Told z (e ∷ l) = Does (P.deed e.0) (ran z l) e.1 × Told z l

  -- two runs of the same calls, whatever they returned
  pub data SameCalls : List Event → List Event → Type 0 where
    none : SameCalls [] []
    again : {l k : List Event} (c : P.Call) (r q : (P.deed c).Result) → SameCalls l k → SameCalls ((c, r) ∷ l) ((c, q) ∷ k)
