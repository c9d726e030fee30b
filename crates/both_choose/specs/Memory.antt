-- Contract between layers: what is remembered of CHOOSE: under the tag of a feature and a branch of the rule, two targets and their difference, the result's words. Assumes nothing.
use Rattle.std.specs.Prelude.{Option, None, Some, ◌≡◌, List, ℕ, ◌+◌, ◌*◌, ◌<◌, drop}
use Rattle.theory.specs.WellFormed.{Mean}
use Rattle.table_words.specs.Words.{listed}
use Rattle.table_memory.specs.Memory as M
use Rattle.rule_lending.specs.Lending.{lent, key_of}
use Rattle.cost_nodes.specs.Nodes.{Good}
use Rattle.both_choose.specs.Choice.{choice}
use Rattle.promises.specs.Integers.{int}
use Rattle.promises.specs.Words.{sizes}
use Rattle.promises.specs.CostWords.{target, cost_branch as branch, cost_node_list as nodes}

-- the branch of the words z and e is the choice, by the rule's branch b, of the targets x and y with the difference d, from feature k on
pub record Recalled (v w : List ℕ) (k b x y d z e : ℕ) : Type 0 where
  pub first : Good w k x
  pub second : Good w k y
  pub mean : Mean (nodes w) k (drop k (sizes w)) (branch z e) (choice (lent v k b) (nodes w) k (target x) (target y) (int d))

-- the tag of feature k and the branch b
abbrev pub tag_of : ℕ → ℕ → ℕ
tag_of k b = k + 1 + 32 * key_of b

-- an entry is right for the rule table v and the cost table w: its key is the tag, the targets and the difference
pub record Says (v w key : List ℕ) (z e : ℕ) : Type 0 where
  pub recalled : (k b : ℕ) → k < 16 → listed key 0 ≡ tag_of k b → Recalled v w k b (listed key 1) (listed key 2) (listed key 3) z e

-- so is what a walk over the cost table w remembers, there or in the scratch s
abbrev pub Noted : List ℕ → List ℕ → List ℕ → Type 0
Noted v w s = M.Noted 4 (Says v) w s

-- as it is after a call that had room
abbrev pub Still : {A : Type 0} → List ℕ → List ℕ → List ℕ → Option A → Type 0
Still v w s (Some a) = Noted v w s
Still v w s None = Unit {0}
