-- Contract between layers: the sections of a sheet of any kind: a two-byte count, then the items; and the nodes in the order of their list. Assumes nothing.
use mathlib.Core.List.{List, [], ◌∷◌, ◌++◌}
use Rattle.std.specs.Prelude.{ℕ, ◌/◌, ◌%◌, length}
use Rattle.theory.specs.Kind.{Kind}
use Rattle.theory.specs.Diagrams.{Branch, Node}

-- a two-byte number, high byte first
unfoldable pub two : ℕ → List ℕ
two n = n / 256 ∷ n % 256 ∷ []

-- a section: the count, then the items' bytes
unfoldable pub section : ℕ → List ℕ → List ℕ
unfolding two
section n items = two n ++ items

module _ {K : Kind} (bytes : Branch K → List ℕ) where
  -- branches in turn, each with the bytes that its kind gives it
  unfoldable pub branches_bytes : List (Branch K) → List ℕ
  branches_bytes [] = []
  branches_bytes (b ∷ bs) = bytes b ++ branches_bytes bs

  -- a node: its feature byte, then its branches
  unfoldable pub node_bytes : Node K → List ℕ
  unfolding branches_bytes
  node_bytes x = x.feature ∷ branches_bytes x.branches

  -- nodes in the order of their list
  unfoldable pub nodes_bytes : List (Node K) → List ℕ
  unfolding node_bytes
  nodes_bytes [] = []
  nodes_bytes (x ∷ N) = node_bytes x ++ nodes_bytes N

  -- the four sections: the edition's bytes, the sizes, the nodes, the roots
  unfoldable pub sheet_byte_list : List ℕ → List ℕ → List (Node K) → List (Branch K) → List ℕ
  unfolding section branches_bytes nodes_bytes
  sheet_byte_list edition S N roots = section (length edition) edition ++ (section (length S) S ++ (section (length N) (nodes_bytes N) ++ section (length roots) (branches_bytes roots)))
