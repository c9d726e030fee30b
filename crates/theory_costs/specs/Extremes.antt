-- Means of proof: the lowest and the highest that a cost gives, over all settings and by one pass over the nodes. Assumes nothing.
use Rattle.std.specs.Prelude.{◌≡◌, List, ℕ, ◌<◌, ℤ, pos, ◌+ℤ◌, length, get_or}
use Rattle.theory.specs.Diagrams.{Branch, Node, Target, at, blank, leaf, node}
use Rattle.theory.specs.Costs.{Cost, costs}
use Rattle.promises.specs.CostSound.{across, extreme}
use Rattle.promises.specs.CostOperations.{smaller_of, larger_of}

abbrev pub lowest_of : List ℕ → Cost → ℤ
lowest_of S f = extreme smaller_of S f

abbrev pub highest_of : List ℕ → Cost → ℤ
highest_of S f = extreme larger_of S f

-- ---- f i is kept for node i
-- what is kept for a target, and what a branch has with it: the end has 0
abbrev pub kept_at : (ℕ → ℤ) → Target costs → ℤ
kept_at f (leaf e) = pos 0
kept_at f (node i) = f i

abbrev pub along : (ℕ → ℤ) → Branch costs → ℤ
along f b = b.adds +ℤ kept_at f b.to

-- a node's own, from what is kept for the nodes that its branches go to
unfoldable pub own : (ℤ → ℤ → ℤ) → (ℕ → ℤ) → Node costs → ℤ
own op f x = across op (λ v. along f (get_or x.branches v blank)) (length x.branches)

-- the first m nodes have their own
pub record Passed (op : ℤ → ℤ → ℤ) (N : List (Node costs)) (m : ℕ) (f : ℕ → ℤ) : Type 0 where
  pub each : (i : ℕ) → i < m → f i ≡ own op f (at N i)
