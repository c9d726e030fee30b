-- Contract between layers: the part of the soundness test that follows branches, for every kind: where they may go, and the walk from the roots.
-- `first` tells the kind: branch words below it end, the others say nodes. Assumes nothing.
use Rattle.std.specs.Prelude.{◌≡◌, List, ℕ, suc, ◌+◌, ◌-◌, ◌≤◌, ◌<◌, eqb, ltb, length, drop, Option as Answer, Some, None}
use Rattle.std.proofs.Math.Option.{Option, none, some}
use Rattle.theory.specs.Diagrams.{Branch, Node, Target, at, leaf, node}
use Rattle.theory.specs.Rules.{rules}
use Rattle.theory.specs.WellFormed.{Under}
use Rattle.theory.specs.Walk.{scan, scans}
use Rattle.table_words.specs.Words.{way_of}
use Rattle.promises.specs.Tab.{tab}
use Rattle.promises.specs.Words.{head, features, size, count, sizes, feature, body, nodes_by, pick}
use Rattle.promises.specs.Sound.{Header, Sits}

-- the kind word
abbrev pub kind_of : ℕ → ℕ
kind_of first = pick (eqb first 1) 2 1

-- ---- what is tested
-- each branch of node i ends or goes to an earlier node of a higher feature
pub record Lower (first : ℕ) (w : List ℕ) (i : ℕ) : Type 0 where
  pub lower : (v : ℕ) → v < size w (feature w i) → Sits first w i (feature w i + 1) (way_of first (body w i) v)

-- each of the n roots ends or goes to a node in use
pub record Rooted (first n : ℕ) (w : List ℕ) : Type 0 where
  pub rooted : (p : ℕ) → p < n → Sits first w (count w) 0 (head w (32 + p))

-- LAWFUL FORM, which the walk asks: the header, known features, branches that go down
pub record Formed (first : ℕ) (w : List ℕ) : Type 0 where
  pub header : Header (kind_of first) w
  pub known : (i : ℕ) → i < count w → feature w i < features w
  pub lower : (i : ℕ) → i < count w → Lower first w i

-- ---- THE SHAPE of a table: its nodes and roots, of their branches only where these go
unfoldable pub goal_of : ℕ → ℕ → Target rules
goal_of first x = pick (ltb x first) (leaf 0) (node (x - first))

abbrev pub going_to : ℕ → ℕ → Branch rules
going_to first x = record { adds = tt; to = goal_of first x }

abbrev pub shape_arm : ℕ → (ℕ → ℕ) → ℕ → Branch rules
shape_arm first f v = going_to first (way_of first f v)

abbrev pub shape : ℕ → List ℕ → List (Node rules)
shape first w = nodes_by (shape_arm first) w

abbrev pub shape_roots : ℕ → ℕ → List ℕ → List (Branch rules)
shape_roots first n w = tab (λ p. going_to first (head w (32 + p))) n

-- IN ORDER: the walk from the n roots in turn meets every node, each in its turn
abbrev pub InOrder : ℕ → ℕ → List ℕ → Type 0
InOrder first n w = scans (scan (shape first w) 0 (sizes w)) (shape_roots first n w) 0 ≡ some (count w)

-- ---- the walk's answers: how many nodes are done, up to n, or none for a lost walk
abbrev pub Says : ℕ → Answer ℕ → Option ℕ → Type 0
Says n r none = r ≡ None
Says n r (some d) = (r ≡ Some d) × (d ≤ n)

-- the branch word b may stand where features k and up are left
abbrev pub Good : ℕ → List ℕ → ℕ → ℕ → Type 0
Good first w k b = Under (shape first w) (length (shape first w)) k (goal_of first b)

-- r is the walk from the branch word b, the nodes below c done; from whatever feature it sets out
pub record Visits (first : ℕ) (w : List ℕ) (b c : ℕ) (r : Answer ℕ) : Type 0 where
  pub visits : (k : ℕ) → Good first w k b → Says (count w) r (scan (shape first w) k (drop k (sizes w)) (goal_of first b) c)

-- the walk over the features after that of node i
abbrev pub scan_below : ℕ → List ℕ → ℕ → Target rules → ℕ → Option ℕ
scan_below first w i = scan (shape first w) (suc (at (shape first w) i).feature) (drop (suc (at (shape first w) i).feature) (sizes w))

-- r is the walk over the branches of node i in turn
pub record VisitsAll (first : ℕ) (w : List ℕ) (i c : ℕ) (r : Answer ℕ) : Type 0 where
  pub visits : Says (count w) r (scans (scan_below first w i) (tab (shape_arm first (body w i)) (size w (feature w i))) c)
