-- Contract between layers: less: the rule that a walk over two costs of a cost table builds in a rule table, and what it is asked on the way. Assumes nothing.
use Rattle.std.specs.Prelude.{◌≡◌, List, ℕ, ◌≤◌, drop}
use Rattle.theory.specs.Costs.{costs}
use Rattle.theory.specs.Diagrams.{Branch, meaning}
use Rattle.theory.specs.Rules.{Rule}
use Rattle.theory.specs.WellFormed.{Ok}
use Rattle.theory_costs.specs.Narrow.{Placed}
use Rattle.theory_costs.specs.Relative.{below_from}
use Rattle.cost_nodes.specs.Nodes.{Good, Holds}
use Rattle.rule_lending.specs.Building.{Ready}
use Rattle.promises.specs.Integers.{int}
use Rattle.promises.specs.Range.{Within, cost_most}
use Rattle.promises.specs.Words.{features, sizes}
use Rattle.promises.specs.CostWords.{target, cost_node_list as nodes}

-- a rule table v that may take a rule on the features of the cost table w
pub record Beside (w v : List ℕ) : Type 0 where
  pub ready : Ready v
  pub same : sizes v ≡ sizes w

-- what `below` requires: both branches are of the cost table, and both costs lie in range
pub record Comparable (w v : List ℕ) (b c : Branch costs) : Type 0 where
  pub holds : Holds w
  pub beside : Beside w v
  pub first : Ok (nodes w) 0 b
  pub second : Ok (nodes w) 0 c
  pub first_in : Within cost_most (sizes w) (meaning (nodes w) b)
  pub second_in : Within cost_most (sizes w) (meaning (nodes w) c)

-- ---- on the way: two target words of the cost table w from feature k on, where the second has the integer of the word d more on it
-- the rule that is 1 where the first is below the second, else 0
unfoldable pub less_from : List ℕ → ℕ → ℕ → ℕ → ℕ → Rule
less_from w k x y d s = below_from (nodes w) k (target x) (target y) (int d) s

-- features k and up are left, and both lie in range at some base
pub record Operands (w : List ℕ) (k x y d : ℕ) : Type 0 where
  pub holds : Holds w
  pub up_to : k ≤ features w
  pub first : Good w k x
  pub second : Good w k y
  pub placed : Placed cost_most (drop k (sizes w)) (nodes w) k (target x) (target y) (int d)
