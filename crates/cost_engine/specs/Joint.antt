-- Contract between layers: two costs joined by an operator: what the engine builds, and what it is asked on the way. Assumes nothing.
use Rattle.std.specs.Prelude.{◌≡◌, List, ℕ, ◌≤◌, ℤ, pos, ◌+ℤ◌, ◌-ℤ◌, ◌*ℤ◌, drop}
use Rattle.theory.specs.Costs.{Cost, amount, costs}
use Rattle.theory.specs.Diagrams.{Branch, Node, Target, meaning, value}
use Rattle.theory.specs.Settings.{zeros}
use Rattle.theory_costs.specs.Narrow.{Placed, Spread, Narrow}
use Rattle.theory_costs.specs.Relative.{onward}
use Rattle.cost_notes.specs.Operand.{Operand}
use Rattle.cost_nodes.specs.Nodes.{Holds, Good}
use Rattle.cost_engine.specs.declared.operators.Operator.{Operator}
use Rattle.cost_engine.specs.declared.operators.Operator.TheVariants.{Add, Subtract, Smaller, Larger, Scale}
use Rattle.promises.specs.Integers.{Fit, int}
use Rattle.promises.specs.CostOperations.{joined, smaller_of, larger_of}
use Rattle.promises.specs.Range.{Within, add_most, cost_most}
use Rattle.promises.specs.CostSound.{bare}
use Rattle.promises.specs.Words.{features, sizes}
use Rattle.promises.specs.CostWords.{target, cost_branch as branch, cost_node_list as nodes}

-- the operator on integers; scale by the integer of a word has one operand, and does not look at the second
abbrev pub op_of : Operator → ℤ → ℤ → ℤ
op_of Add x y = x +ℤ y
op_of Subtract x y = x -ℤ y
op_of Smaller x y = smaller_of x y
op_of Larger x y = larger_of x y
op_of (Scale c) x y = x *ℤ int c

-- two costs joined
abbrev pub together : Operator → Cost → Cost → Cost
together o f g = joined (op_of o) f g

-- what `join_costs` requires: both branches are of the table, which is at rest, and both costs and the result lie in range
pub record Joinable (w : List ℕ) (o : Operator) (b c : Branch costs) : Type 0 where
  pub first : Operand w b
  pub second : Operand w c
  pub result_in : Within cost_most (sizes w) (together o (meaning (nodes w) b) (meaning (nodes w) c))

-- ---- on the way: two branches from feature k on, where the second has d more on it
unfoldable pub joint : Operator → List (Node costs) → ℕ → Branch costs → Branch costs → ℤ → Cost
joint o N k b c d s = amount (op_of o (value N k b s).off (d +ℤ (value N k c s).off))

-- of two targets
abbrev pub joint_from : Operator → List (Node costs) → ℕ → Target costs → Target costs → ℤ → Cost
joint_from o N k t u d = joint o N k (bare t) (bare u) d

-- of two branches that add a and b: what is put before the result of their targets, ..
abbrev pub ahead : Operator → ℤ → ℤ → ℤ
ahead Smaller a b = a
ahead Larger a b = a
ahead Add a b = op_of Add a b
ahead Subtract a b = op_of Subtract a b
ahead (Scale c) a b = op_of (Scale c) a b

-- .. and how much more the second target has on it
abbrev pub gap : Operator → ℤ → ℤ → ℤ → ℤ
gap Smaller d a b = onward d a b
gap Larger d a b = onward d a b
gap Add d a b = d
gap Subtract d a b = d
gap (Scale c) d a b = d

-- smaller and larger: both lie in range at some base; the others: nothing is between them
abbrev pub Based : Operator → List ℕ → List (Node costs) → ℕ → Target costs → Target costs → ℤ → Type 0
Based Smaller ns N k t u d = Placed cost_most ns N k t u d
Based Larger ns N k t u d = Placed cost_most ns N k t u d
Based Add ns N k t u d = d ≡ pos 0
Based Subtract ns N k t u d = d ≡ pos 0
Based (Scale c) ns N k t u d = d ≡ pos 0

-- no sum that is met leaves ±2,000,000,000
pub record Bounded (o : Operator) (ns : List ℕ) (N : List (Node costs)) (k : ℕ) (t u : Target costs) (d : ℤ) : Type 0 where
  pub based : Based o ns N k t u d
  pub spread : Spread add_most ns (joint_from o N k t u d)

-- two target words of the table w, where features k and up are left
pub record Operands (w : List ℕ) (o : Operator) (k x y : ℕ) (d : ℤ) : Type 0 where
  pub holds : Holds w
  pub up_to : k ≤ features w
  pub first : Good w k x
  pub second : Good w k y
  pub bounded : Bounded o (drop k (sizes w)) (nodes w) k (target x) (target y) d
  pub narrow : Narrow add_most (sizes w) (nodes w)

-- two branches of the table w, where features k and up are left
pub record Branches (w : List ℕ) (o : Operator) (k x a y b : ℕ) (d : ℤ) : Type 0 where
  pub rest : Operands w o k x y (gap o d (int a) (int b))
  pub lead : Fit add_most (ahead o (int a) (int b))
  pub whole : Fit add_most (joint o (nodes w) k (branch x a) (branch y b) d (zeros (drop k (sizes w)))).off
