-- Contract between layers: the pair of a node worked out: what is kept for a target, the sums along the branches of a body, the lowest and the highest of them. Assumes nothing.
use Rattle.std.specs.Prelude.{Bool, true, false, ◌≡◌, List, ℕ, ◌+◌, ◌*◌, ◌≤◌, ◌<◌, ℤ, length, Option, Some, None}
use Rattle.theory_costs.specs.Extremes.{along, kept_at}
use Rattle.table_words.specs.Words.{listed}
use Rattle.cost_words.specs.declared.sides.Span.{Span}
use Rattle.promises.specs.Integers.{Fit, int}
use Rattle.promises.specs.Range.{add_most}
use Rattle.promises.specs.CostSound.{across, kept, side_of}
use Rattle.promises.specs.CostWords.{target, cost_branch as branch, goes, added}

-- ---- two words, those of a lowest and of a highest
-- the second if `up`, else the first
abbrev pub end_of : Bool → ℕ → ℕ → ℕ
end_of true a b = b
end_of false a b = a

-- a and b are kept for the target word x
pub record Keeps (w : List ℕ) (x a b : ℕ) : Type 0 where
  pub keeps : (up : Bool) → int (end_of up a b) ≡ kept_at (kept up w) (target x)

-- the words have a record for the target word x
pub record Near (w : List ℕ) (x : ℕ) : Type 0 where
  pub room : 8192 + 16 * x ≤ length w
  pub most : x ≤ 4096

-- e and f are the further of a and c, b and d; no 0 comes in
pub record Wider (a b c d e f : ℕ) : Type 0 where
  pub wider : (up : Bool) → int (end_of up e f) ≡ side_of up (int (end_of up a b)) (int (end_of up c d))
  pub some : 0 < a → 0 < c → 0 < e

-- ---- the pair of a node with a given body
-- the sum along branch v
abbrev pub arm_sum : Bool → List ℕ → List ℕ → ℕ → ℤ
arm_sum up w l v = along (kept up w) (branch (goes (listed l) v) (added (listed l) v))

-- m branches
pub record Bodied (w l : List ℕ) (m : ℕ) : Type 0 where
  pub some : 1 ≤ m
  pub most : m ≤ 8
  pub near : (v : ℕ) → v < m → Near w (goes (listed l) v)

-- the span, whose lowest is no 0, stands for the sums along branch v; None says that one lies outside ±2,000,000,000
abbrev pub ArmSums : List ℕ → List ℕ → ℕ → Option Span → Type 0
ArmSums w l v (Some a) = (0 < a.low) × ((up : Bool) → int (end_of up a.low a.high) ≡ arm_sum up w l v)
ArmSums w l v None = ((up : Bool) → Fit add_most (arm_sum up w l v)) → ⊥

-- the span, whose lowest is no 0, stands for the lowest and the highest of the sums along m branches; None says that one lies outside ±2,000,000,000
abbrev pub Sides : List ℕ → List ℕ → ℕ → Option Span → Type 0
Sides w l m (Some a) = (0 < a.low) × ((up : Bool) → int (end_of up a.low a.high) ≡ across (side_of up) (arm_sum up w l) m)
Sides w l m None = ((up : Bool) (v : ℕ) → v < m → Fit add_most (arm_sum up w l v)) → ⊥
