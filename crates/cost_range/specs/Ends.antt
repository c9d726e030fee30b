-- Contract between layers: the lowest and the highest amount of a sum or a difference of two costs, as a walk over pairs of targets finds them. Assumes nothing.
use Rattle.std.specs.Prelude.{Bool, true, false, not, ◌≡◌, List, ℕ, ◌+◌, ◌≤◌, ◌<◌, ℤ, ◌+ℤ◌, ◌-ℤ◌, drop, Option, Some, None}
use Rattle.theory.specs.Costs.{Cost}
use Rattle.theory.specs.Diagrams.{value}
use Rattle.theory.specs.Functions.{held}
use Rattle.theory_costs.specs.Extremes.{lowest_of, highest_of}
use Rattle.theory_costs.specs.Narrow.{Narrow, Spread}
use Rattle.theory_costs.specs.Relative.{pair_from}
use Rattle.table_words.specs.Words.{listed}
use Rattle.table_memory.specs.Memory as M
use Rattle.cost_words.specs.Sides.{end_of, Wider}
use Rattle.cost_words.specs.declared.sides.Span.{Span}
use Rattle.cost_nodes.specs.Nodes.{Holds, Good}
use Rattle.promises.specs.CostSound.{across, extreme, side_of}
use Rattle.promises.specs.Integers.{Fit, int}
use Rattle.promises.specs.CostOperations.{joined}
use Rattle.promises.specs.Range.{Within, add_most}
use Rattle.promises.specs.Words.{features, sizes}
use Rattle.promises.specs.CostWords.{target, cost_branch as branch, cost_node_list as nodes}

-- the difference of two integers if `minus`, else their sum
abbrev pub tie_of : Bool → ℤ → ℤ → ℤ
tie_of true x y = x -ℤ y
tie_of false x y = x +ℤ y

-- which side of the second cost meets a side of the first: in a difference the other one
abbrev pub facing : Bool → Bool → Bool
facing true up = not up
facing false up = up

-- ---- the ends of a cost
-- l and h stand for its lowest and its highest amount
pub record Spans (ns : List ℕ) (f : Cost) (l h : ℕ) : Type 0 where
  pub lowest : int l ≡ lowest_of ns f
  pub highest : int h ≡ highest_of ns f

-- None: two amounts lie more than 2,000,000,000 apart, or one lies that far from 0
abbrev pub Reaches : List ℕ → Cost → Option Span → Type 0
Reaches ns f (Some a) = Spans ns f a.low a.high
Reaches ns f None = Spread add_most ns f → Within add_most ns f → ⊥

-- where both ends lie in the range of costs
abbrev pub Inside : Option Span → Type 0
Inside (Some a) = (1147483648 ≤ a.low) × (a.high ≤ 3147483648)
Inside None = ⊥

-- ---- two costs by their ends alone, l and h of the first, x and y of the second
-- what the ends give on a side
abbrev pub meeting : Bool → Bool → ℕ → ℕ → ℕ → ℕ → ℤ
meeting minus up l h x y = tie_of minus (int (end_of up l h)) (int (end_of (facing minus up) x y))

-- the words of both; None where one lies outside ±2,000,000,000
abbrev pub Meeting : Bool → ℕ → ℕ → ℕ → ℕ → Option Span → Type 0
Meeting minus l h x y (Some a) = (up : Bool) → int (end_of up a.low a.high) ≡ meeting minus up l h x y
Meeting minus l h x y None = ((up : Bool) → Fit add_most (meeting minus up l h x y)) → ⊥

-- ---- of two target words of the table w, where features k and up are left
pub record Pair (w : List ℕ) (k x y : ℕ) : Type 0 where
  pub holds : Holds w
  pub narrow : Narrow add_most (sizes w) (nodes w)
  pub up_to : k ≤ features w
  pub first : Good w k x
  pub second : Good w k y

abbrev pub of_targets : Bool → List ℕ → ℕ → ℕ → ℕ → Cost
of_targets minus w k x y = pair_from (tie_of minus) (nodes w) k (target x) (target y)

-- of two branches: the words of their targets, and of what they add
abbrev pub of_branches : Bool → List ℕ → ℕ → ℕ → ℕ → ℕ → ℕ → Cost
of_branches minus w k x a y b = joined (tie_of minus) (value (nodes w) k (branch x a)) (value (nodes w) k (branch y b))

-- ---- value by value
-- r is the further of a and b on both sides; after no value it is b
abbrev pub Furthest : Option Span → Span → Span → Type 0
Furthest (Some a) b r = Wider a.low a.high b.low b.high r.low r.high
Furthest None b r = r ≡ b

-- a stands for the furthest that the first v values give, where one gives what is furthest for it
pub record Folded (up : Bool) (ns : List ℕ) (f : Cost) (v a : ℕ) : Type 0 where
  pub folded : 0 < v → int a ≡ across (side_of up) (λ u. extreme (side_of up) ns (held u f)) v

-- so on both sides; None: there was no value
abbrev pub Folds : List ℕ → Cost → ℕ → Option Span → Type 0
Folds ns f v (Some a) = (0 < v) × (Folded false ns f v a.low) × (Folded true ns f v a.high)
Folds ns f v None = v ≡ 0

-- ---- what is remembered: an entry's key is a feature + 1, two targets, and 0
pub record Right (minus : Bool) (w key : List ℕ) (l h : ℕ) : Type 0 where
  pub at : (k : ℕ) → listed key 0 ≡ k + 1 → Spans (drop k (sizes w)) (of_targets minus w k (listed key 1) (listed key 2)) l h

-- so is what a walk over the table w remembers, there or in the scratch s
abbrev pub Noted : Bool → List ℕ → List ℕ → Type 0
Noted minus w s = M.Noted 4 (Right minus) w s
