-- Contract between layers: what the engine remembers, under a feature + 1, two targets and their difference, and what its calls leave. Assumes nothing.
use Rattle.std.specs.Prelude.{◌≡◌, List, ℕ, ◌+◌, drop, Option, Some, None}
use Rattle.theory.specs.WellFormed.{Mean}
use Rattle.table_words.specs.Words.{listed}
use Rattle.table_memory.specs.Memory as M
use Rattle.cost_nodes.specs.Nodes.{Good}
use Rattle.cost_engine.specs.Joint.{joint_from}
use Rattle.cost_engine.specs.declared.operators.Operator.{Operator}
use Rattle.promises.specs.Integers.{int}
use Rattle.promises.specs.Words.{sizes}
use Rattle.promises.specs.CostWords.{target, cost_branch as branch, cost_node_list as nodes}

-- the branch of the words z and e is the result for the targets x and y with the difference d, from feature k on
pub record Recalled (w : List ℕ) (o : Operator) (k x y d z e : ℕ) : Type 0 where
  pub first : Good w k x
  pub second : Good w k y
  pub mean : Mean (nodes w) k (drop k (sizes w)) (branch z e) (joint_from o (nodes w) k (target x) (target y) (int d))

-- an entry is right for the table w: its key is the feature + 1, the targets and the difference
pub record Right (o : Operator) (w key : List ℕ) (z e : ℕ) : Type 0 where
  pub at : (k : ℕ) → listed key 0 ≡ k + 1 → Recalled w o k (listed key 1) (listed key 2) (listed key 3) z e

-- so is what a walk over the table w remembers, there or in the scratch s
abbrev pub Noted : List ℕ → Operator → List ℕ → Type 0
Noted w o s = M.Noted 4 (Right o) w s

-- as it is after a call that had room
abbrev pub Still : {A : Type 0} → List ℕ → Operator → List ℕ → Option A → Type 0
Still w o s (Some b) = Noted w o s
Still w o s None = Unit {0}
