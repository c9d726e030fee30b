-- Contract between layers: how the pairs are tested: each node's from its branches and the pairs of earlier nodes. Assumes nothing.
use Rattle.std.specs.Prelude.{Bool, true, false, ◌≡◌, List, ℕ}
use Rattle.std.proofs.Math.Option.{some}
use Rattle.theory.specs.Diagrams.{at}
use Rattle.theory.specs.Walk.{scan, scans}
use Rattle.theory_costs.specs.Extremes.{own}
use Rattle.promises.specs.Words.{count, sizes}
use Rattle.promises.specs.CostSound.{kept, side_of, CostNodesOk as Nodes, CostRooted as Rooted, CostSound as Sound}
use Rattle.promises.specs.CostWords.{cost_node_list as nodes, cost_roots as roots}
use Rattle.promises.specs.Sound.{Header, Chained}

-- what is tested before the pairs and the range
pub record Shaped (w : List ℕ) : Type 0 where
  pub header : Header 2 w
  pub nodes_ok : Nodes w
  pub chained : Chained w
  pub roots_ok : Rooted w
  pub in_order : scans (scan (nodes w) 0 (sizes w)) (roots w) 0 ≡ some (count w)

-- the answer of a test that may end early: yes is for P, no for the table
abbrev pub Passes : Bool → List ℕ → Type 0 → Type 0
Passes true w P = P
Passes false w P = Sound w → ⊥

-- what is kept for node i is its own, on both sides: from its branches and what is kept for earlier nodes
abbrev pub Owns : List ℕ → ℕ → Type 0
Owns w i = (up : Bool) → kept up w i ≡ own (side_of up) (kept up w) (at (nodes w) i)
