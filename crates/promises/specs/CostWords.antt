-- What the words of a cost table say: its nodes, its roots and bases, its costs. Assumes nothing.
use Rattle.std.specs.Prelude.{◌≡◌, List, ℕ, zero, suc, ◌+◌, ◌/◌, ◌%◌, ◌≤◌, ◌<◌, eqb}
use Rattle.theory.specs.Costs.{costs, Cost}
use Rattle.theory.specs.Diagrams.{Branch, Node, Target, leaf, node, meaning}
use Rattle.promises.specs.Integers.{int}
use Rattle.promises.specs.Tab.{tab}
use Rattle.promises.specs.Words.{head, nodes_by, pick}

-- where a word goes: 0 to the end, else to the node of the index before it
unfoldable pub target : ℕ → Target costs
target zero = leaf tt
target (suc i) = node i

-- a branch, from the word of its target and the word that stands for what it adds
abbrev pub cost_branch : ℕ → ℕ → Branch costs
cost_branch x a = record { adds = int a; to = target x }

-- ---- the body of a record: targets two a word, value 0 in the low half of word 0, then the added integers of values 0 to 7
-- the half of a word that is for value v
unfoldable pub half : ℕ → ℕ → ℕ
half x v = pick (eqb (v % 2) 0) (x % 65536) (x / 65536)

-- the target word and the added word of value v
abbrev pub goes : (ℕ → ℕ) → ℕ → ℕ
goes f v = half (f (v / 2)) v

abbrev pub added : (ℕ → ℕ) → ℕ → ℕ
added f v = f (4 + v)

-- past m values a body has 0 only
pub record Padded (m : ℕ) (f : ℕ → ℕ) : Type 0 where
  pub targets : (v : ℕ) → m ≤ v → v < 8 → goes f v ≡ 0
  pub addeds : (v : ℕ) → m ≤ v → v < 8 → added f v ≡ 0

abbrev pub cost_node_list : List ℕ → List (Node costs)
cost_node_list w = nodes_by (λ f v. cost_branch (goes f v) (added f v)) w

-- ---- places: the root word and the base of place p, and all 16 roots
abbrev pub cost_root : List ℕ → ℕ → ℕ
cost_root w p = head w (32 + p)

abbrev pub cost_base : List ℕ → ℕ → ℕ
cost_base w p = head w (48 + p)

abbrev pub root_at : List ℕ → ℕ → Branch costs
root_at w p = cost_branch (cost_root w p) (cost_base w p)

unfoldable pub cost_roots : List ℕ → List (Branch costs)
cost_roots w = tab (root_at w) 16

-- the cost of place p, and all 16 costs
abbrev pub cost_of : List ℕ → ℕ → Cost
cost_of w p = meaning (cost_node_list w) (root_at w p)

unfoldable pub costs_of : List ℕ → List Cost
costs_of w = tab (cost_of w) 16
