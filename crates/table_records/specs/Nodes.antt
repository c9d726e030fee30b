-- Contract between layers: a table of any kind as the holder of a node list; one node that is asked for. Assumes nothing.
use Rattle.std.specs.Prelude.{◌≡◌, List, [], ◌∷◌, ◌++◌, ℕ, suc, ◌<◌}
use Rattle.theory.specs.Kind.{Kind}
use Rattle.theory.specs.Deciding.{Alike, In}
use Rattle.theory.specs.Diagrams.{Node, blank, empty}
use Rattle.theory.specs.WellFormed.{Ok}
use Rattle.table_words.specs.Table.{Table, Spared, branches, nodes}
use Rattle.table_words.specs.Holding.{Layout}
use Rattle.table_words.specs.Words.{listed, Kept}
use Rattle.table_records.specs.Changes.{pair_of}
use Rattle.table_records.specs.Laid.{Laid}
use Rattle.promises.specs.Words.{capacity, size, sizes, count, feature, body}

module _ {K : Kind} (T : Table K) where
  -- laid out as every table, each body says nothing past the values of its feature, and each spare word is its node's
  pub record NodesLaid (w : List ℕ) : Type 0 where
    pub laid : Laid w
    pub padded : (i : ℕ) → i < count w → T.Padded (size w (feature w i)) (body w i)
    pub spared : Spared T w

  -- how such a table is read
  abbrev pub layout_of : Layout K
  layout_of = record { nodes = nodes T; sizes = sizes; capacity = capacity; Laid = NodesLaid; Kept = Kept }

  -- the list is a body for feature k: its branches may stand one feature on, and it is padded
  pub record Listed (w : List ℕ) (k : ℕ) (l : List ℕ) : Type 0 where
    pub each : (v : ℕ) → v < size w k → Ok (nodes T w) (suc k) (T.arm (listed l) v)
    pub pad : T.Padded (size w k) (listed l)

  -- the node of feature k with the list's branches
  abbrev pub node_of : List ℕ → ℕ → List ℕ → Node K
  node_of w k l = record { feature = k; branches = branches T (size w k) (listed l) }

  -- x and y are the spare words of that node, behind the others
  abbrev pub Behind : List ℕ → ℕ → List ℕ → ℕ → ℕ → Type 0
  Behind w k l x y = (j : ℕ) → j < 2 → pair_of x y j ≡ T.spare_of (sizes w) (nodes T w ++ (node_of w k l ∷ [])) (count w) j

  -- nothing has the list's branches at feature k: they differ, and no node has them
  pub record Absent (w : List ℕ) (k : ℕ) (l : List ℕ) : Type 0 where
    pub varied : ¬ Alike blank (branches T (size w k) (listed l))
    pub missing : ¬ In empty (node_of w k l) (nodes T w)
