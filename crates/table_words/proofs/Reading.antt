-- The nodes, the roots and the functions of a table by index, and the nodes of records that have the same words. Assumes nothing.
use mathlib.Core.Path.{◌≡◌, sym, ap, subst, ◌∙◌}
use mathlib.Core.Logic.{⊎_elim}
use mathlib.Core.List.{List}
use Prim.Native.Nat.{ℕ, ◌+◌, ◌-◌, ◌≤◌, ◌<◌}
use native.Mathlib.Omega.{arith}
use lib.ListN.{length, get_or, get_or-eq_default}
use Rattle.theory.specs.Kind.{Kind}
use Rattle.theory.specs.Diagrams.{Branch, Node, at, blank, empty, node}
use Rattle.theory.specs.Functions.{Fun, zero_fun}
use Rattle.theory.specs.WellFormed.{Under}
use Rattle.table_words.specs.Table.{Table, Regular, branches, node_at, nodes, roots_of, fun_at}
use Rattle.table_words.proofs.Tab.{split, tab_ext, length_tab, get_or_tab}
use Rattle.promises.specs.Tab.{tab}
use Rattle.promises.specs.Words as W
use Rattle.promises.specs.Words.{nodes_by, count, size, feature, body}

module _ {K : Kind} where
  -- past its end a list of branches has nothing
  pub branch_past : (L : ℕ → Branch K) (n v : ℕ) → n ≤ v → get_or (tab L n) v blank ≡ blank
  branch_past L n v h = get_or-eq_default (tab L n) blank (omega (arith, length_tab L n))

-- the nodes of records, whatever their body words say
module _ {K : Kind} (arm : (ℕ → ℕ) → ℕ → Branch K) where
  pub length_nodes_by : (w : List ℕ) → length (nodes_by arm w) ≡ count w
  unfolding nodes_by
  length_nodes_by w = length_tab (W.node_at arm w) (count w)

  pub at_nodes_by : (w : List ℕ) (i : ℕ) → i < count w → at (nodes_by arm w) i ≡ W.node_at arm w i
  unfolding nodes_by
  at_nodes_by w i h = get_or_tab (W.node_at arm w) (count w) i empty h

module _ {K : Kind} (T : Table K) where
  pub length_nodes : (w : List ℕ) → length (nodes T w) ≡ count w
  length_nodes w = length_nodes_by T.arm w

  pub at_nodes : (w : List ℕ) (i : ℕ) → i < count w → at (nodes T w) i ≡ node_at T w i
  at_nodes w i h = at_nodes_by T.arm w i h

  -- branch v of node i
  pub branch_at_lem : (w : List ℕ) (i v : ℕ) → i < count w → v < size w (feature w i) → get_or (at (nodes T w) i).branches v blank ≡ T.arm (body w i) v
  branch_at_lem w i v h hv =
      ap (λ (x : Node K). get_or x.branches v blank) (at_nodes w i h) ∙ get_or_tab (T.arm (body w i)) (size w (feature w i)) v blank hv

  -- past its size a node has no branch
  pub past_at : (w : List ℕ) (i v : ℕ) → i < count w → size w (feature w i) ≤ v → get_or (at (nodes T w) i).branches v blank ≡ blank
  past_at w i v h l = ap (λ (x : Node K). get_or x.branches v blank) (at_nodes w i h) ∙ branch_past (T.arm (body w i)) (size w (feature w i)) v l

  -- the branch of each place
  pub length_roots : (w : List ℕ) → length (roots_of T w) ≡ T.places
  length_roots w = length_tab (T.root_at w) T.places

  pub at_roots : (w : List ℕ) (p : ℕ) → p < T.places → get_or (roots_of T w) p blank ≡ T.root_at w p
  at_roots w p h = get_or_tab (T.root_at w) T.places p blank h

module _ {K : Kind} {T : Table K} (L : Regular T) where
  -- the function of each place is what its branch means
  pub length_said : (w : List ℕ) → length (T.said w) ≡ T.places
  length_said w = ap (λ (gs : List (Fun K)). length gs) (L.said w) ∙ length_tab (fun_at T w) T.places

  pub at_said : (w : List ℕ) (p : ℕ) → p < T.places → get_or (T.said w) p zero_fun ≡ fun_at T w p
  at_said w p h = ap (λ (gs : List (Fun K)). get_or gs p zero_fun) (L.said w) ∙ get_or_tab (fun_at T w) T.places p zero_fun h

  -- the same body words say the same branches
  pub branches_same : (m : ℕ) (f g : ℕ → ℕ) → m ≤ 8 → ((v : ℕ) → v < 12 → f v ≡ g v) → branches T m f ≡ branches T m g
  branches_same m f g l e = tab_ext (T.arm f) (T.arm g) m (λ v h. L.reads f g v (omega arith) e)

  -- and the same branches are said by the same body words
  pub bodies_same : (m : ℕ) (f g : ℕ → ℕ) → m ≤ 8 → branches T m f ≡ branches T m g → T.Padded m f → T.Padded m g → (v : ℕ) → v < 12 → f v ≡ g v
  bodies_same m f g l e =
      L.told m f g l (λ v h. sym (get_or_tab (T.arm f) m v blank h) ∙ ap (λ (bs : List (Branch K)). get_or bs v blank) e ∙ get_or_tab (T.arm g) m v blank h)

  -- the node of a record that has the feature k and the body f
  pub node_is : (w : List ℕ) (i k m : ℕ) (f : ℕ → ℕ) → feature w i ≡ k → size w k ≡ m → m ≤ 8 → ((v : ℕ) → v < 12 → body w i v ≡ f v)
      → node_at T w i ≡ record { feature = k; branches = branches T m f }
  node_is w i k m f ek em l e =
      let q : branches T (size w (feature w i)) (body w i) ≡ branches T m f =
      ap (λ (j : ℕ). branches T (size w j) (body w i)) ek ∙ ap (λ (n : ℕ). branches T n (body w i)) em ∙ branches_same m (body w i) f l e in
      λ j. record { feature = ek j; branches = q j }

-- a word that goes to a node below m is below the word of node m
pub goal_below : {K : Kind} {T : Table K} → Regular T → (N : List (Node K)) (m k x : ℕ) → Under N m k (T.goal x) → x < T.first + m
goal_below {K} {T} L N m k x u = ⊎_elim
    (λ h. omega arith)
    (λ h.
    let q : T.first + (x - T.first) ≡ x = omega arith in
    let b : Under N m k (node (x - T.first)) = subst (Under N m k) (ap T.goal (sym q) ∙ L.indices (x - T.first)) u in omega (arith, b.0))
    (split x T.first)
