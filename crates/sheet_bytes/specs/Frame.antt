-- Contract between layers: a sheet of any kind by index: a first section, the sizes, the nodes, the roots, and what follows them; lawful form apart from canonical form. Assumes nothing.
use Rattle.std.specs.Prelude.{◌≡◌, List, ℕ, suc, ◌+◌, ◌≤◌, ◌<◌, length, take, drop}
use Rattle.std.proofs.Math.Option.{some}
use Rattle.theory.specs.Kind.{Kind}
use Rattle.theory.specs.Settings.{FeatureList}
use Rattle.theory.specs.Diagrams.{Branch, Node}
use Rattle.theory.specs.WellFormed.{Under}
use Rattle.theory.specs.Walk.{scan, scans}
use Rattle.promises.specs.Sheet.{byte, pair, row}
use Rattle.sheet_bytes.specs.Hand.{Hand, Fair}

-- how branches are laid out, how many bytes the first section has, where node i begins
pub record Frame (K : Kind) : Type 1 where
  pub hand : Hand K
  pub first : ℕ
  pub place : List ℕ → ℕ → ℕ

module _ {K : Kind} (F : Frame K) (s : List ℕ) where
  -- ---- what stands where
  abbrev pub features : ℕ
  features = pair s (2 + F.first)

  abbrev pub size : ℕ → ℕ
  size k = byte s (4 + F.first + k)

  unfoldable pub sizes_of : List ℕ
  sizes_of = take features (drop (4 + F.first) s)

  abbrev pub count : ℕ
  count = pair s (4 + F.first + features)

  abbrev pub feature : ℕ → ℕ
  feature i = byte s (F.place s i)

  abbrev pub width : ℕ → ℕ
  width i = size (feature i)

  -- where branch v of node i begins, and what it says
  abbrev pub spot_of : ℕ → ℕ → ℕ
  spot_of i v = F.hand.spot s (F.place s i + 1) v

  abbrev pub branch : ℕ → ℕ → Branch K
  branch i v = F.hand.says s (spot_of i v)

  unfoldable pub node_of : ℕ → Node K
  node_of i = record { feature = feature i; branches = row 0 (width i) (branch i) }

  unfoldable pub nodes_of : List (Node K)
  unfolding node_of
  nodes_of = row 0 count node_of

  -- where the nodes end, how many roots follow, where root r begins, what it says
  abbrev pub end : ℕ
  end = F.place s count

  abbrev pub heads : ℕ
  heads = pair s end

  abbrev pub root_spot : ℕ → ℕ
  root_spot r = F.hand.spot s (end + 2) r

  abbrev pub root : ℕ → Branch K
  root r = F.hand.says s (root_spot r)

  unfoldable pub roots_of : List (Branch K)
  roots_of = row 0 heads root

  -- where what follows the roots begins
  abbrev pub after : ℕ
  after = root_spot heads

  -- ---- LAWFUL FORM
  -- the first two sections, and room for the count of the third
  pub record Opens : Type 0 where
    pub start : pair s 0 ≡ F.first
    pub long : 6 + F.first + features ≤ length s
    pub list : FeatureList sizes_of

  -- the nodes of known features lie one after the other; n roots, and so many bytes follow them
  pub record Lays (n rest : ℕ) : Type 0 where
    pub known : (i : ℕ) → i < count → feature i < features
    pub tops : heads ≡ n
    pub ends : after + rest ≡ length s

  -- at p stands a branch: an end, or a node before m of feature k or higher
  pub record Stands (m k p : ℕ) : Type 0 where
    pub fine : F.hand.Fine s p
    pub under : Under nodes_of m k (F.hand.says s p).to

  -- each branch of node i ends or goes to an earlier node of a higher feature
  pub record Lower (i : ℕ) : Type 0 where
    pub lower : (v : ℕ) → v < width i → Stands i (suc (feature i)) (spot_of i v)

  pub record Lawful (n rest : ℕ) : Type 0 where
    pub opens : Opens
    pub lays : Lays n rest
    pub nodes : (i : ℕ) → i < count → Lower i
    pub roots : (r : ℕ) → r < n → Stands count 0 (root_spot r)

  -- ---- CANONICAL FORM
  -- the branches of node i are all equal
  pub record Alike (i : ℕ) : Type 0 where
    pub alike : (v : ℕ) → v < width i → branch i v ≡ branch i 0

  -- no idle node, nothing added by branch 0, no twins, and the walk from the roots in turn meets all nodes, each in its turn
  pub record Canonical : Type 0 where
    pub differ : (i : ℕ) → i < count → Alike i → ⊥
    pub zeroed : (i : ℕ) → i < count → (branch i 0).adds ≡ K.nil
    pub once : (i j : ℕ) → i < j → j < count → node_of i ≡ node_of j → ⊥
    pub order : scans (scan nodes_of 0 sizes_of) roots_of 0 ≡ some count

-- where nodes begin is as the sections say it
pub record Regular {K : Kind} (F : Frame K) : Type 0 where
  pub fair : Fair F.hand
  pub front : (s : List ℕ) → F.place s 0 ≡ 6 + F.first + features F s
  pub next : (s : List ℕ) (i : ℕ) → F.place s (suc i) ≡ spot_of F s i (width F s i)
