-- Contract between layers: where the nodes of a rule sheet begin, in an array; how many roots follow them. Assumes nothing.
use Rattle.std.specs.Prelude.{◌≡◌, List, ℕ, ◌+◌, ◌≤◌, ◌<◌, length, get_or}
use Rattle.promises.specs.Sheet.{sheet_count as count, node_place as place, sheet_feature as feature, sheet_features as features, nodes_end as end}
use Rattle.sheet_bytes.specs.Frame as F
use Rattle.sheet_bytes.specs.RuleFrame.{rule_frame}

-- ---- where the nodes begin, in an array
-- the array holds the places of the first m nodes
pub record Holds (s at : List ℕ) (m : ℕ) : Type 0 where
  pub holds : (i : ℕ) → i < m → get_or at i 0 ≡ place s i

-- what a reader of nodes asks: the sections before them, at most 4,096 nodes of known features that end inside the bytes, and their places
pub record Placed (s at : List ℕ) : Type 0 where
  pub opens : F.Opens rule_frame s
  pub room : count s ≤ 4096
  pub known : (i : ℕ) → i < count s → feature s i < features s
  pub inside : end s + 2 ≤ length s
  pub places : Holds s at (count s)

-- at most 4,096 nodes of known features, and n roots after them that end the bytes
pub record Spans (s : List ℕ) (n : ℕ) : Type 0 where
  pub room : count s ≤ 4096
  pub lays : F.Lays rule_frame s n 0
