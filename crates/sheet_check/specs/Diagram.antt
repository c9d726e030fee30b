-- Contract between layers: lawful and canonical form of a sheet's bytes in branch words, and the walk over the diagram that stands in them. Assumes nothing.
use Rattle.std.specs.Prelude.{◌≡◌, List, ℕ, suc, ◌<◌, drop, Some, None, IfSome}
use Rattle.std.specs.Prelude as rattle
use Rattle.std.proofs.Math.Option.{Option, none, some}
use Rattle.theory.specs.Diagrams.{Target}
use Rattle.theory.specs.WellFormed.{Ok}
use Rattle.theory.specs.Walk.{scan, scans}
use Rattle.theory.specs.Rules.{rules}
use Rattle.sheet_bytes.specs.Frame.{root_spot, roots_of}
use Rattle.sheet_bytes.specs.RuleFrame.{rule_frame}
use Rattle.promises.specs.RuleWords.{decode as branch_of}
use Rattle.promises.specs.Sheet.{sheet_node as node_of, sheet_nodes as nodes_of, sheet_sizes as sizes_of, sheet_feature as feature, sheet_count as count, triple as word}
use Rattle.promises.specs.Sheet.{SheetSits as Below, SheetLower as Lower, SheetAlike as Alike, Once}

-- ---- lawful form, words compared
-- each branch of each node is a phrase or an earlier node of a higher feature
pub record Downward (s : List ℕ) : Type 0 where
  pub lower : (i : ℕ) → i < count s → Lower s i

-- each of the n roots is a phrase or a node
pub record Rooted (s : List ℕ) (n : ℕ) : Type 0 where
  pub rooted : (r : ℕ) → r < n → Below s (count s) 0 (word s (root_spot rule_frame s r))

-- ---- canonical form, words compared
-- no idle node, and no twins
pub record Reduced (s : List ℕ) : Type 0 where
  pub differ : (i : ℕ) → i < count s → Alike s i → ⊥
  pub once : Once s

-- the walk from the roots in turn meets all nodes, each in its turn
pub record InTurn (s : List ℕ) : Type 0 where
  pub turn : scans (scan (nodes_of s) 0 (sizes_of s)) (roots_of rule_frame s) 0 ≡ some (count s)

-- ---- the walk's answer: how many nodes are done, or none for a lost one
abbrev pub told : rattle.Option ℕ → Option ℕ
told (Some r) = some r
told None = none

-- r is the walk from the branch word w, the nodes below c done; from whatever feature it sets out
pub record Visits (s : List ℕ) (w c : ℕ) (r : rattle.Option ℕ) : Type 0 where
  pub visits : (k : ℕ) → Ok (nodes_of s) k (branch_of w) → scan (nodes_of s) k (drop k (sizes_of s)) (branch_of w).to c ≡ told r
  pub small : IfSome r (λ d. d < 65536)

-- the walk over the features after that of node i
abbrev pub further : List ℕ → ℕ → Target rules → ℕ → Option ℕ
further s i = scan (nodes_of s) (suc (feature s i)) (drop (suc (feature s i)) (sizes_of s))

-- r is the walk over the branches of node i in turn
pub record VisitsAll (s : List ℕ) (i c : ℕ) (r : rattle.Option ℕ) : Type 0 where
  pub visits : scans (further s i) (node_of s i).branches c ≡ told r

-- r is the walk over the roots in turn
pub record VisitsRoots (s : List ℕ) (r : rattle.Option ℕ) : Type 0 where
  pub visits : scans (scan (nodes_of s) 0 (sizes_of s)) (roots_of rule_frame s) 0 ≡ told r
