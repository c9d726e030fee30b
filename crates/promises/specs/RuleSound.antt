-- A sound rule table: what its words must be. Assumes nothing.
use Rattle.std.specs.Prelude.{◌≡◌, List, ℕ, ◌+◌, ◌*◌, ◌<◌}
use Rattle.std.proofs.Math.Option.{some}
use Rattle.theory.specs.Walk.{scan, scans}
use Rattle.promises.specs.Words.{features, size, count, sizes, feature, body, Zeros}
use Rattle.promises.specs.RuleWords.{rule_node_list, rule_root, rule_roots}
use Rattle.promises.specs.Sound.{Header, Chained, Sits}

-- each branch of node i is a phrase or an earlier node of a higher feature
pub record RuleLower (w : List ℕ) (i : ℕ) : Type 0 where
  pub lower : (v : ℕ) → v < size w (feature w i) → Sits 65536 w i (feature w i + 1) (body w i v)

-- the branches of node i are all equal
pub record RuleAlike (w : List ℕ) (i : ℕ) : Type 0 where
  pub alike : (v : ℕ) → v < size w (feature w i) → body w i v ≡ body w i 0

-- node i by itself: its feature, its branches, and 0 in the words that they leave
pub record RuleNodeOk (w : List ℕ) (i : ℕ) : Type 0 where
  pub known : feature w i < features w
  pub lower : RuleLower w i
  pub differ : RuleAlike w i → ⊥
  pub padded : Zeros w (8192 + 16 * i + 1 + size w (feature w i)) (8192 + 16 * i + 13)
  pub spare : Zeros w (8192 + 16 * i + 14) (8192 + 16 * i + 16)

-- each node in use
pub record RuleNodesOk (w : List ℕ) : Type 0 where
  pub each : (i : ℕ) → i < count w → RuleNodeOk w i

-- each of the 32 roots is a phrase or a node in use
pub record RuleRooted (w : List ℕ) : Type 0 where
  pub rooted : (p : ℕ) → p < 32 → Sits 65536 w (count w) 0 (rule_root w p)

-- SOUND: the header, the nodes, their chains (so no twins), the roots; and the walk from the roots in turn meets every node, each in its turn
pub record RuleSound (w : List ℕ) : Type 0 where
  pub header : Header 1 w
  pub nodes_ok : RuleNodesOk w
  pub chained : Chained w
  pub roots_ok : RuleRooted w
  pub in_order : scans (scan (rule_node_list w) 0 (sizes w)) (rule_roots w) 0 ≡ some (count w)
