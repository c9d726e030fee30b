-- Contract between layers: a cost table as the holder of a node list: the unique search, the making of a node, steps down a diagram, and the contract of what adds nodes. Assumes nothing.
use Rattle.std.specs.Prelude.{Bool, ◌≡◌, List, ℕ, zero, suc, ◌≤◌, ◌<◌, ◌-ℤ◌, length, get_or, Option, Some, None}
use Rattle.std.proofs.Math.Option.{Option as Maybe, none, some}
use Rattle.theory.specs.Build.{Built, make}
use Rattle.theory.specs.Costs.{costs, Cost}
use Rattle.theory.specs.Diagrams.{Branch, Node}
use Rattle.theory.specs.WellFormed.{Ok, Under}
use Rattle.theory_costs.specs.Extremes.{Passed, along}
use Rattle.table_words.specs.Table.{branches}
use Rattle.table_words.specs.Holding as H
use Rattle.table_words.specs.Words.{listed}
use Rattle.table_records.specs.Nodes as R
use Rattle.cost_words.specs.Table.{cost_table}
use Rattle.cost_words.specs.Words.{target_of, Worded, tos, adding}
use Rattle.cost_words.specs.declared.Arm.{Arm}
use Rattle.cost_words.specs.declared.Target.{Target}
use Rattle.promises.specs.Integers.{Fit, int}
use Rattle.promises.specs.Range.{add_most}
use Rattle.promises.specs.Tab.{tab}
use Rattle.promises.specs.Words.{features, size, sizes, feature}
use Rattle.promises.specs.CostSound.{bare, kept, side_of}
use Rattle.promises.specs.CostWords.{target, cost_branch as branch, goes, added, cost_node_list as nodes}

-- ---- the table
-- how a cost table is read
abbrev pub layout : H.Layout costs
layout = R.layout_of cost_table

abbrev pub Holds : List ℕ → Type 0
Holds w = H.Holds layout w

abbrev pub Grown : List ℕ → List ℕ → List (Node costs) → Type 0
Grown w w' N = H.Grown layout w w' N

-- `build` of the cost g over the features from k on, from the table's nodes
abbrev pub built : List ℕ → ℕ → Cost → Built costs
built w k g = H.built layout w k g

-- ---- the contract of every function that adds nodes
-- the branch that an answer tells; None tells that there was no room
abbrev pub told : Option Arm → Maybe (Branch costs)
told (Some b) = some (branch b.to b.adds)
told None = none

-- the table afterwards, and the answer, are those of the branch and the node list r
abbrev pub Gives : List ℕ → List ℕ → Built costs → Option Arm → Type 0
Gives w w' r a = H.Gives layout w w' r (told a)

-- THE CONTRACT of every function that adds nodes to a cost table
abbrev pub Result : List ℕ → List ℕ → ℕ → Cost → Option Arm → Type 0
Result w w' k g a = Gives w w' (built w k g) a

-- ---- the unique search
-- a body for feature k whose branch 0 adds nothing
pub record Levelled (w : List ℕ) (k : ℕ) (l : List ℕ) : Type 0 where
  pub fits : R.Listed cost_table w k l
  pub level : listed l 4 ≡ 2147483648

-- the first m targets and added words of a body are all its first
pub record AllSame (m : ℕ) (l : List ℕ) : Type 0 where
  pub targets : (v : ℕ) → v < m → goes (listed l) v ≡ goes (listed l) 0
  pub addeds : (v : ℕ) → v < m → added (listed l) v ≡ listed l 4

-- what it found is what `make` gives, and it finds none only where `make` adds a node
abbrev pub Finds : List ℕ → ℕ → List ℕ → Option Target → Type 0
Finds w k l (Some x) = (make k (branches cost_table (size w k) (listed l)) (nodes w) ≡ (bare (target_of x), nodes w)) × (Worded x)
Finds w k l None = R.Absent cost_table w k l

-- ---- the making of a node
-- the first m branches of a list
abbrev pub arms : ℕ → List Arm → List (Branch costs)
arms m b = tab (λ v. branch (tos b v) (adding b v)) m

-- branches for feature k: the targets 0 past its size, no two added integers too far apart, nor the sums below; and the table keeps each node's own
pub record Armed (w : List ℕ) (k : ℕ) (b : List Arm) : Type 0 where
  pub each : (v : ℕ) → v < size w k → Ok (nodes w) (suc k) (branch (tos b v) (adding b v))
  pub pad : (v : ℕ) → size w k ≤ v → v < 8 → tos b v ≡ 0
  pub near : (v : ℕ) → v < size w k → Fit add_most (int (adding b v) -ℤ int (adding b 0))
  pub sums : (up : Bool) (v : ℕ) → v < size w k → Fit add_most (along (kept up w) (branch (tos b v) (adding b v)) -ℤ int (adding b 0))
  pub paired : (up : Bool) → Passed (side_of up) (nodes w) (length (nodes w)) (kept up w)

-- r has the targets of b and what the branches add more than the first, and adds 0 past the first m
pub record Lowered (m : ℕ) (b r : List Arm) : Type 0 where
  pub targets : (v : ℕ) → v < 8 → tos r v ≡ tos b v
  pub each : (v : ℕ) → v < m → int (adding r v) ≡ int (adding b v) -ℤ int (adding b 0)
  pub pad : (v : ℕ) → m ≤ v → v < 8 → adding r v ≡ 0

-- the answer and the table are those of `make` with these branches
abbrev pub Makes : List ℕ → List ℕ → ℕ → List Arm → Option Arm → Type 0
Makes w w' k b o = Gives w w' (make k (arms (size w k) b) (nodes w)) o

-- ---- steps down a diagram
-- a target word of the table that tests nothing below k
abbrev pub Good : List ℕ → ℕ → ℕ → Type 0
Good w k x = Under (nodes w) (length (nodes w)) k (target x)

-- the feature at the top of a target; of the end, the number of features
unfoldable pub top : List ℕ → ℕ → ℕ
top w zero = features w
top w (suc i) = feature w i

-- a place of the diagram: the target word x, where the features from k on are left
pub record Place (w : List ℕ) (k x : ℕ) : Type 0 where
  pub holds : Holds w
  pub good : Good w k x
  pub up_to : k ≤ features w

-- ---- a result built branch by branch
-- the first v branches of the cost g at feature k are in t, and the list says them
pub record Filling (w t : List ℕ) (k : ℕ) (g : Cost) (v : ℕ) (b : List Arm) : Type 0 where
  pub filled : H.Filled layout w t k g v (arms v b)
  pub pad : (u : ℕ) → v ≤ u → u < 8 → tos b u ≡ 0
  pub long : length b ≡ 8

-- there was no room for all branches
abbrev pub Stopped : List ℕ → List ℕ → ℕ → Cost → Type 0
Stopped w t k g = H.Stopped layout w t k g (get_or (sizes w) k 0)

-- all branches, or None where there was no room for them
abbrev pub Fills : List ℕ → List ℕ → ℕ → Cost → Option (List Arm) → Type 0
Fills w t k g (Some b) = Filling w t k g (size w k) b
Fills w t k g None = Stopped w t k g
