-- Contract between layers: a rule table as the holder of a node list: the unique search, the making of a node, steps down a diagram, and the contract of what adds nodes. Assumes nothing.
use Rattle.std.specs.Prelude.{Option, None, Some, ◌≡◌, List, ℕ, ◌-◌, ◌≤◌, ◌<◌, ltb, length, get_or}
use Rattle.std.proofs.Math.Option.{Option as MathOption, none, some}
use Rattle.theory.specs.Build.{make}
use Rattle.theory.specs.Rules.{rules, Branch, Node, Rule, Built}
use Rattle.theory.specs.WellFormed.{Ok}
use Rattle.table_words.specs.Holding as H
use Rattle.table_words.specs.Words.{listed}
use Rattle.table_records.specs.Nodes as R
use Rattle.rule_words.specs.Table.{rule_table}
use Rattle.rule_words.specs.Words.{branches, branch_of, Worded}
use Rattle.rule_words.specs.declared.Branch.{Branch as CodeBranch}
use Rattle.promises.specs.Words.{capacity, features, size, sizes, feature, pick}
use Rattle.promises.specs.RuleWords.{decode, rule_node_list as nodes}

-- ---- the table
-- how a rule table is read
abbrev pub layout : H.Layout rules
layout = R.layout_of rule_table

abbrev pub Holds : List ℕ → Type 0
Holds w = H.Holds layout w

abbrev pub Grown : List ℕ → List ℕ → List Node → Type 0
Grown w w' N = H.Grown layout w w' N

-- `build` of the rule g over the features from k on, from the table's nodes
abbrev pub built : List ℕ → ℕ → Rule → Built
built w k g = H.built layout w k g

-- ---- the contract of every function that adds nodes
-- the branch that an answer tells, if it tells one
abbrev pub told : Option ℕ → MathOption Branch
told (Some x) = some (decode x)
told None = none

-- the table afterwards, and the answer, are those of the branch and the node list r
pub record Gives (w w' : List ℕ) (r : Built) (a : Option ℕ) : Type 0 where
  pub grown : Grown w w' r.1
  pub answers : H.Answers layout (capacity w) r (told a)

-- THE CONTRACT of every function that adds nodes to a rule table
abbrev pub Result : List ℕ → List ℕ → ℕ → Rule → Option ℕ → Type 0
Result w w' k g a = Gives w w' (built w k g) a

-- ---- one node
-- a branch word of the table that tests nothing below k
abbrev pub Good : List ℕ → ℕ → ℕ → Type 0
Good w k b = Ok (nodes w) k (decode b)

-- a list of branch words for feature k, 0 past its size
abbrev pub Listed : List ℕ → ℕ → List ℕ → Type 0
Listed w k l = R.Listed rule_table w k l

-- the first m of a list are all its first
pub record AllSame (m : ℕ) (l : List ℕ) : Type 0 where
  pub each : (v : ℕ) → v < m → listed l v ≡ listed l 0

-- the unique search is right: what it found is what `make` gives, and it says none only where `make` adds a node
abbrev pub Finds : List ℕ → ℕ → List ℕ → Option CodeBranch → Type 0
Finds w k l (Some b) = (make k (branches (size w k) (listed l)) (nodes w) ≡ (branch_of b, nodes w)) × (Worded b)
Finds w k l None = R.Absent rule_table w k l

-- the answer and the table are those of `make` with the list's branches
abbrev pub Makes : List ℕ → List ℕ → ℕ → List ℕ → Option ℕ → Type 0
Makes w w' k l a = Gives w w' (make k (branches (size w k) (listed l)) (nodes w)) a

-- ---- steps down a diagram
-- the feature at the top of a branch; of a phrase, the number of features
unfoldable pub top : List ℕ → ℕ → ℕ
top w b = pick (ltb b 65536) (features w) (feature w (b - 65536))

-- a place of the diagram: the branch b, where the features from k on are left
pub record Place (w : List ℕ) (k b : ℕ) : Type 0 where
  pub holds : Holds w
  pub good : Good w k b
  pub up_to : k ≤ features w

-- ---- a result built branch by branch
-- the first v branches of the rule g at feature k are in t, and the list says them
pub record Filling (w t : List ℕ) (k : ℕ) (g : Rule) (v : ℕ) (l : List ℕ) : Type 0 where
  pub filled : H.Filled layout w t k g v (branches v (listed l))
  pub pad : (u : ℕ) → v ≤ u → u < 12 → listed l u ≡ 0
  pub long : length l ≡ 12

-- there was no room for all branches
abbrev pub Stopped : List ℕ → List ℕ → ℕ → Rule → Type 0
Stopped w t k g = H.Stopped layout w t k g (get_or (sizes w) k 0)

-- all branches are filled, or there was no room for them
abbrev pub Fills : List ℕ → List ℕ → ℕ → Rule → Option (Unit {0}) → List ℕ → Type 0
Fills w t k g (Some u) l = Filling w t k g (size w k) l
Fills w t k g None l = Stopped w t k g
