-- A sound cost table: what its words must be. Assumes nothing.
use Rattle.std.specs.Prelude.{Bool, true, false, ◌≡◌, ℕ, zero, suc, ◌+◌, ◌<◌, ℤ, pos, drop}
use mathlib.Core.List.{List, [], ◌∷◌}
use Rattle.std.proofs.Math.Option.{some}
use Rattle.theory.specs.Costs.{costs, Cost}
use Rattle.theory.specs.Diagrams.{Branch, Node, Target, at, node, value}
use Rattle.theory.specs.Functions.{held}
use Rattle.theory.specs.Walk.{scan, scans}
use Rattle.promises.specs.Integers.{Fit, bias, int}
use Rattle.promises.specs.CostOperations.{smaller_of, larger_of}
use Rattle.promises.specs.Range.{Within, add_most, cost_most}
use Rattle.promises.specs.Words.{features, size, count, sizes, feature, body, word}
use Rattle.promises.specs.CostWords.{goes, added, Padded, cost_node_list, cost_root, cost_roots, cost_of}
use Rattle.promises.specs.Sound.{Header, Chained, Sits}

-- ---- the lowest and the highest sum below a node
-- op is `smaller_of` for the lowest, `larger_of` for the highest
module _ (op : ℤ → ℤ → ℤ) where
  -- that of h 0, h 1, .., h (n - 1)
  unfoldable pub across : (ℕ → ℤ) → ℕ → ℤ
  across h zero = pos 0
  across h (suc zero) = h 0
  across h (suc (suc n)) = op (across h (suc n)) (h (suc n))

  -- that of a cost over all settings
  unfoldable pub extreme : List ℕ → Cost → ℤ
  unfolding across
  extreme [] f = (f []).off
  extreme (n ∷ ns) f = across (λ v. extreme ns (held v f)) n

-- the branch to t that adds nothing, and the cost of features k and up below t
abbrev pub bare : Target costs → Branch costs
bare t = record { adds = pos 0; to = t }

abbrev pub from : List (Node costs) → ℕ → Target costs → Cost
from N k t = value N k (bare t)

-- over all settings of node i's own feature and those after it, what the branches on the way add
unfoldable pub sum_below : (ℤ → ℤ → ℤ) → List ℕ → List (Node costs) → ℕ → ℤ
sum_below op S N i = extreme op (drop (at N i).feature S) (from N (at N i).feature (node i))

-- the higher of two if `up`, else the lower
abbrev pub side_of : Bool → ℤ → ℤ → ℤ
side_of true = larger_of
side_of false = smaller_of

-- what is kept for node i: the highest sum below it if `up`, else the lowest
abbrev pub kept : Bool → List ℕ → ℕ → ℤ
kept true w i = int (word w i 15)
kept false w i = int (word w i 14)

-- THE PAIRS: what is kept for each node is the lowest and the highest sum below it, over all settings
pub record Pairs (w : List ℕ) : Type 0 where
  pub pairs : (up : Bool) (i : ℕ) → i < count w → kept up w i ≡ sum_below (side_of up) (sizes w) (cost_node_list w) i

-- ---- the nodes and the places
-- each branch of node i goes to the end or to an earlier node of a higher feature
pub record CostLower (w : List ℕ) (i : ℕ) : Type 0 where
  pub lower : (v : ℕ) → v < size w (feature w i) → Sits 1 w i (feature w i + 1) (goes (body w i) v)

-- branch 0 of node i adds 0, and each adds an integer within ±2,000,000,000
pub record CostAdds (w : List ℕ) (i : ℕ) : Type 0 where
  pub level : added (body w i) 0 ≡ bias
  pub fits : (v : ℕ) → v < size w (feature w i) → Fit add_most (int (added (body w i) v))

-- the branches of node i all go to one target and add 0
pub record CostAlike (w : List ℕ) (i : ℕ) : Type 0 where
  pub targets : (v : ℕ) → v < size w (feature w i) → goes (body w i) v ≡ goes (body w i) 0
  pub addeds : (v : ℕ) → v < size w (feature w i) → added (body w i) v ≡ bias

-- node i by itself: its feature, its branches, and 0 in the body words that they leave
pub record CostNodeOk (w : List ℕ) (i : ℕ) : Type 0 where
  pub known : feature w i < features w
  pub lower : CostLower w i
  pub adds : CostAdds w i
  pub differ : CostAlike w i → ⊥
  pub padded : Padded (size w (feature w i)) (body w i)

-- each node in use
pub record CostNodesOk (w : List ℕ) : Type 0 where
  pub each : (i : ℕ) → i < count w → CostNodeOk w i

-- each of the 16 roots goes to the end or to a node in use
pub record CostRooted (w : List ℕ) : Type 0 where
  pub rooted : (p : ℕ) → p < 16 → Sits 1 w (count w) 0 (cost_root w p)

-- each place's cost lies within ±1,000,000,000 at every setting, its base (all values 0) too
pub record Ranged (w : List ℕ) : Type 0 where
  pub ranged : (p : ℕ) → p < 16 → Within cost_most (sizes w) (cost_of w p)

-- SOUND: the header, the nodes, their chains (so no twins), the roots; the walk from the roots in turn meets every node, each in its turn; the pair of each node; the range
pub record CostSound (w : List ℕ) : Type 0 where
  pub header : Header 2 w
  pub nodes_ok : CostNodesOk w
  pub chained : Chained w
  pub roots_ok : CostRooted w
  pub in_order : scans (scan (cost_node_list w) 0 (sizes w)) (cost_roots w) 0 ≡ some (count w)
  pub paired : Pairs w
  pub ranged : Ranged w
