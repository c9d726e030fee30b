-- FORMULAS OF COSTS, and the places of a cost table for which taken calls have worked them out. Assumes nothing.
use Rattle.std.specs.Prelude.{◌≡◌, List, ℕ, ℤ}
use Rattle.theory.specs.Costs.{Cost}
use Rattle.settings.specs.Refusals.{Outcome}
use Rattle.settings.specs.Refusals.{Taken}
use Rattle.promises.specs.CostOperations as O
use Rattle.promises.specs.Deed.{Meets}
use Rattle.promises.specs.CostDeeds as D
use Rattle.call_laws.specs.Standing as S
use Rattle.promises.specs.CostWords.{cost_root as root, cost_base as base, cost_of}
use Rattle.promises.specs.CostSound.{CostSound as Sound}

-- of a cost table: a place that still holds its cost, and calls in turn
abbrev pub Still : ℕ → List ℕ → List ℕ → Type 0
Still p w v = S.Still cost_of Sound p w v

abbrev pub InTurn : List ℕ → List (List ℕ → List ℕ → Outcome → Type 0) → List ℕ → List ℕ → Type 0
InTurn l calls w v = S.InTurn cost_of Sound l calls w v

-- the places p and q hold one root word and one base word
abbrev pub One : List ℕ → ℕ → ℕ → Type 0
One w p q = (root w p ≡ root w q) × (base w p ≡ base w q)

-- a cost that is given, or what add, subtract, smaller, larger and scale make of formulas
pub data Formula : Type 0 where
  given_formula : Cost → Formula
  plus_formula : Formula → Formula → Formula
  minus_formula : Formula → Formula → Formula
  smaller_formula : Formula → Formula → Formula
  larger_formula : Formula → Formula → Formula
  times_formula : ℤ → Formula → Formula

-- the cost that a formula says
abbrev pub said_by : Formula → Cost
said_by (given_formula f) = f
said_by (plus_formula x y) = O.sum (said_by x) (said_by y)
said_by (minus_formula x y) = O.difference (said_by x) (said_by y)
said_by (smaller_formula x y) = O.smaller (said_by x) (said_by y)
said_by (larger_formula x y) = O.larger (said_by x) (said_by y)
said_by (times_formula c x) = O.scaled c (said_by x)

-- WORKED OUT: in the words w place p holds what taken calls made, by the formula x, of costs that places held
pub data Worked : List ℕ → ℕ → Formula → Type 0 where
  -- a source: the cost that the place holds
  source : (w : List ℕ) (p : ℕ) → Worked w p (given_formula (cost_of w p))
  -- whatever was called meanwhile
  stays : {p : ℕ} {w v : List ℕ} {x : Formula} → Worked w p x → Still p w v → Worked v p x
  added : {p a b : ℕ} {w v : List ℕ} {x y : Formula} → Worked w a x → Worked w b y → Meets (D.add p a b) w v Taken → Worked v p (plus_formula x y)
  subtracted : {p a b : ℕ} {w v : List ℕ} {x y : Formula} → Worked w a x → Worked w b y → Meets (D.subtract p a b) w v Taken → Worked v p (minus_formula x y)
  smaller : {p a b : ℕ} {w v : List ℕ} {x y : Formula} → Worked w a x → Worked w b y → Meets (D.smaller p a b) w v Taken → Worked v p (smaller_formula x y)
  larger : {p a b : ℕ} {w v : List ℕ} {x y : Formula} → Worked w a x → Worked w b y → Meets (D.larger p a b) w v Taken → Worked v p (larger_formula x y)
  scaled : {p a : ℕ} {c : ℤ} {w v : List ℕ} {x : Formula} → Worked w a x → Meets (D.scale p a c) w v Taken → Worked v p (times_formula c x)
