-- Contract between layers: CHOOSE by a lent rule: what the engine builds, and what it is asked on the way. Assumes nothing.
use Rattle.std.specs.Prelude.{◌≡◌, List, ◌∷◌, ℕ, zero, suc, ◌+◌, ◌≤◌, ◌<◌, ℤ, ◌+ℤ◌, drop}
use Rattle.theory.specs.Costs.{Cost, costs}
use Rattle.theory.specs.Diagrams.{Branch, Node, Target}
use Rattle.theory.specs.Functions.{lift}
use Rattle.theory.specs.Rules.{Rule}
use Rattle.theory_costs.specs.Narrow.{Placed, Narrow}
use Rattle.theory_costs.specs.Relative.{apart_from, onward}
use Rattle.rule_lending.specs.Lending.{Lent, lent}
use Rattle.cost_notes.specs.Operand.{Operand}
use Rattle.cost_nodes.specs.Nodes.{Holds, Good, built, top}
use Rattle.cost_words.specs.declared.Arm.{Arm}
use Rattle.promises.specs.Integers.{Fit, int}
use Rattle.promises.specs.CostOperations.{chosen_of}
use Rattle.promises.specs.Range.{add_most, cost_most}
use Rattle.promises.specs.Words.{features, sizes}
use Rattle.promises.specs.CostWords.{target, cost_branch as branch, cost_node_list as nodes}

-- what `choose_costs` requires: a branch of the rule table v and two of the cost table w, which is at rest, over the same features, both costs in range
pub record Choosable (v w : List ℕ) (b : ℕ) (x y : Branch costs) : Type 0 where
  pub alike : sizes v ≡ sizes w
  pub rule : Lent v 0 b
  pub first : Operand w x
  pub second : Operand w y

-- ---- on the way: where the rule g of the features that are left is not 0 the first integer, else the second
abbrev pub by : Rule → List ℕ → ℤ → ℤ → ℤ
by g s = chosen_of (g s).end

-- of two targets from feature k on, where the second has d more on it
unfoldable pub choice : Rule → List (Node costs) → ℕ → Target costs → Target costs → ℤ → Cost
choice g N k t u d = apart_from (by g) N k t u d

-- of two branches: what the first adds, put before the choice of their targets
unfoldable pub choice_of : Rule → List (Node costs) → ℕ → Branch costs → Branch costs → ℤ → Cost
choice_of g N k b c d = λ s. lift b.adds (choice g N k b.to c.to (onward d b.adds c.adds) s)

-- the words of the choice where the rule has ended with a number: the first target, or where it is 0 the second with d on it
abbrev pub end_of : ℕ → ℕ → ℕ → ℕ → Arm
end_of zero x y d = record { to = y; adds = d }
end_of (suc n) x y d = record { to = x; adds = 2147483648 }

-- a branch word b of the rule table v and two target words of the cost table w, where features k and up are left
pub record Choices (v w : List ℕ) (k b x y : ℕ) (d : ℤ) : Type 0 where
  pub holds : Holds w
  pub alike : sizes v ≡ sizes w
  pub up_to : k ≤ features w
  pub rule : Lent v k b
  pub first : Good w k x
  pub second : Good w k y
  pub placed : Placed cost_most (drop k (sizes w)) (nodes w) k (target x) (target y) d
  pub narrow : Narrow add_most (sizes w) (nodes w)

-- two branches of the cost table; no sum that is met leaves ±2,000,000,000
pub record Branches (v w : List ℕ) (k b x a y c : ℕ) (d : ℤ) : Type 0 where
  pub rest : Choices v w k b x y (onward d (int a) (int c))
  pub ahead : Fit add_most (d +ℤ int c)
  pub whole : Fit add_most (built w k (choice_of (lent v k b) (nodes w) k (branch x a) (branch y c) d)).0.adds

-- ---- features that are passed over
-- the branch b does not look at feature k
pub record Waits (v : List ℕ) (k b : ℕ) : Type 0 where
  pub there : Lent v (k + 1) b
  pub means : (u : ℕ) (s : List ℕ) → lent v k b (u ∷ s) ≡ lent v (k + 1) b s

-- none of the three tests a feature below m
pub record Lowest (v w : List ℕ) (b x y m : ℕ) : Type 0 where
  pub rule : (k : ℕ) → Lent v k b → k < m → Waits v k b
  pub first : m ≤ top w x
  pub second : m ≤ top w y
