-- Means of proof: how far apart the sums below a node lie, and two operands that lie in range at some base. Assumes nothing.
use Rattle.std.specs.Prelude.{List, ℕ, ◌<◌, ℤ, ◌+ℤ◌, ◌-ℤ◌, length, drop}
use Rattle.theory.specs.Settings.{Valid}
use Rattle.theory.specs.Diagrams.{Node, Target, at, node, value}
use Rattle.theory.specs.Costs.{Cost, costs}
use Rattle.promises.specs.Integers.{Fit}
use Rattle.promises.specs.Range.{Within}
use Rattle.promises.specs.CostSound.{from}

-- no two settings cost more than D apart
pub record Spread (D : ℕ) (ns : List ℕ) (f : Cost) : Type 0 where
  pub apart : (s r : List ℕ) → Valid ns s → Valid ns r → Fit D ((f s).off -ℤ (f r).off)

-- this holds below every node
pub record Narrow (D : ℕ) (S : List ℕ) (N : List (Node costs)) : Type 0 where
  pub each : (i : ℕ) → i < length N → Spread D (drop (at N i).feature S) (from N (at N i).feature (node i))

-- with some base on the first, and d more on the second, both lie within ±B
pub record Placed (B : ℕ) (ns : List ℕ) (N : List (Node costs)) (k : ℕ) (t u : Target costs) (d : ℤ) : Type 0 where
  pub onto : ℤ
  pub first : Within B ns (value N k (record { adds = onto; to = t }))
  pub second : Within B ns (value N k (record { adds = onto +ℤ d; to = u }))
