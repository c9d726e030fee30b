-- A sheet of any kind by index: where its nodes begin, its sizes, its nodes, its roots. Assumes nothing.
use mathlib.Core.Path.{◌≡◌, refl, sym, ap, subst, ◌∙◌}
use mathlib.Core.List.{List}
use Prim.Native.Nat.{ℕ, zero, suc, ◌+◌, ◌≤◌, ◌<◌}
use native.Mathlib.Nat.{le_of_suc-le-suc, not-suc-le-zero, zero-add, add-zero}
use native.Mathlib.Decide.{dec_lt}
use native.Mathlib.Omega.{arith}
use lib.ListN.{length, get_or, length-take, length-drop, get_or-eq_default}
use lib.Seq.{ext_get_or, get_or-take, get_or-drop}
use Rattle.theory.specs.Kind.{Kind}
use Rattle.theory.specs.Diagrams.{Branch, Node, at, blank, empty}
use Rattle.promises.specs.Sheet.{row}
use Rattle.sheet_bytes.specs.Frame.{Frame, Regular, Opens, features, size, sizes_of, count, feature, width, branch, node_of, nodes_of, end, heads, root, roots_of, after}
use Rattle.sheet_bytes.proofs.Hands.{rising, spot_far}

-- ---- rows
pub row_length : {A : Type 0} (u n : ℕ) (f : ℕ → A) → length (row u n f) ≡ n
row_length u zero f = refl
row_length u (suc n) f = ap suc (row_length (suc u) n f)

pub row_at : {A : Type 0} (u n : ℕ) (f : ℕ → A) (i : ℕ) (d : A) → i < n → get_or (row u n f) i d ≡ f (u + i)
row_at u zero f i d h = absurd (not-suc-le-zero h)
row_at u (suc n) f zero d h = rw add-zero
row_at u (suc n) f (suc i) d h = let e : u + suc i ≡ suc u + i = omega arith in rw e (row_at (suc u) n f i d (le_of_suc-le-suc h))

-- ---- where nodes begin and end
module _ {K : Kind} {F : Frame K} (R : Regular F) (s : List ℕ) where
  node_far : (i : ℕ) → F.place s i + 1 + width F s i ≤ F.place s (suc i)
  node_far i = omega (arith, R.next s i, spot_far R.fair s (F.place s i + 1) (width F s i))

  pub place_le : (i j : ℕ) → i ≤ j → F.place s i ≤ F.place s j
  place_le i j h = omega (arith, rising (F.place s) (λ k. omega (arith, node_far k)) i j h)

  -- node i ends before the roots' section, and that before what follows it
  pub node_inside : (i : ℕ) → i < count F s → F.place s i + 1 + width F s i ≤ end F s
  node_inside i h = omega (arith, node_far i, place_le (suc i) (count F s) (omega arith))

  pub front_inside : 6 + F.first + features F s ≤ end F s
  front_inside = omega (arith, R.front s, place_le 0 (count F s) (omega arith))

  pub roots_inside : end F s + 2 + heads F s ≤ after F s
  roots_inside = spot_far R.fair s (end F s + 2) (heads F s)

-- ---- the sizes
module _ {K : Kind} {F : Frame K} {s : List ℕ} (o : Opens F s) where
  pub sizes_length : length (sizes_of F s) ≡ features F s
  unfolding sizes_of
  sizes_length = simp (length-take, length-drop) (omega (arith, o.long))

  pub sizes_at : (k : ℕ) → k < features F s → get_or (sizes_of F s) k 0 ≡ size F s k
  unfolding sizes_of
  sizes_at k l = rw (get_or-take, get_or-drop)

  pub few : features F s ≤ 16
  few = omega (arith, o.list.few, sizes_length)

  pub size_least : (k : ℕ) → k < features F s → 2 ≤ size F s k
  size_least k l = omega (arith, o.list.least k (omega (arith, sizes_length)), sizes_at k l)

  pub size_most : (k : ℕ) → k < features F s → size F s k ≤ 8
  size_most k l = omega (arith, o.list.most k (omega (arith, sizes_length)), sizes_at k l)

-- ---- the nodes and the roots
pub node_eq : {K : Kind} {x y : Node K} → x.feature ≡ y.feature → x.branches ≡ y.branches → x ≡ y
node_eq p q = λ i. record { feature = p i; branches = q i }

module _ {K : Kind} (F : Frame K) (s : List ℕ) where
  pub nodes_length : length (nodes_of F s) ≡ count F s
  unfolding nodes_of
  nodes_length = row_length 0 (count F s) (node_of F s)

  pub nodes_at : (i : ℕ) → i < count F s → at (nodes_of F s) i ≡ node_of F s i
  unfolding nodes_of
  nodes_at i h = row_at 0 (count F s) (node_of F s) i empty h ∙ rw zero-add

  pub node_feature : (i : ℕ) → (node_of F s i).feature ≡ feature F s i
  unfolding node_of
  node_feature i = refl

  pub feature_at : (i : ℕ) → i < count F s → (at (nodes_of F s) i).feature ≡ feature F s i
  feature_at i h = ap (λ (x : Node K). x.feature) (nodes_at i h) ∙ node_feature i

  pub branches_length : (i : ℕ) → length (node_of F s i).branches ≡ width F s i
  unfolding node_of
  branches_length i = row_length 0 (width F s i) (branch F s i)

  pub branches_at : (i v : ℕ) → v < width F s i → get_or (node_of F s i).branches v blank ≡ branch F s i v
  unfolding node_of
  branches_at i v h = row_at 0 (width F s i) (branch F s i) v blank h ∙ ap (branch F s i) (zero-add v)

  -- nodes are equal exactly if their features and branches are
  pub same_node : (i j : ℕ) → feature F s i ≡ feature F s j → ((v : ℕ) → v < width F s i → branch F s i v ≡ branch F s j v) → node_of F s i ≡ node_of F s j
  same_node i j e f =
      let z : width F s i ≡ width F s j = ap (size F s) e in
      node_eq (node_feature i ∙ e ∙ sym (node_feature j))
      (ext_get_or blank (node_of F s i).branches (node_of F s j).branches (branches_length i ∙ z ∙ sym (branches_length j))
      (λ v h. let l : v < width F s i = omega (arith, branches_length i) in branches_at i v l ∙ f v l ∙ sym (branches_at j v (omega arith))))

  pub node_same : (i j : ℕ) → node_of F s i ≡ node_of F s j → (feature F s i ≡ feature F s j) × ((v : ℕ) → v < width F s i → branch F s i v ≡ branch F s j v)
  node_same i j e =
      let f : feature F s i ≡ feature F s j = sym (node_feature i) ∙ ap (λ (x : Node K). x.feature) e ∙ node_feature j in
      let z : width F s i ≡ width F s j = ap (size F s) f in
      (f, λ v l. sym (branches_at i v l) ∙ ap (λ (x : Node K). get_or x.branches v blank) e ∙ branches_at j v (omega arith))

  -- the same of the node in its list
  pub width_at : (i : ℕ) → i < count F s → length (at (nodes_of F s) i).branches ≡ width F s i
  width_at i h = ap (λ (x : Node K). length x.branches) (nodes_at i h) ∙ branches_length i

  pub branch_at_lem : (i v : ℕ) → i < count F s → v < width F s i → get_or (at (nodes_of F s) i).branches v blank ≡ branch F s i v
  branch_at_lem i v h l = ap (λ (x : Node K). get_or x.branches v blank) (nodes_at i h) ∙ branches_at i v l

  -- what holds of every branch, and where none is
  pub branches_all : (P : ℕ → Branch K → Type 0) → ((i : ℕ) → P i blank) → ((i v : ℕ) → i < count F s → v < width F s i → P i (branch F s i v)) →
      (i v : ℕ) → P i (get_or (at (nodes_of F s) i).branches v blank)
  branches_all P z f i v = go (dec_lt i (count F s)) (dec_lt v (width F s i))
    where
      go : Dec (i < count F s) → Dec (v < width F s i) → P i (get_or (at (nodes_of F s) i).branches v blank)
      go (yes h) (yes l) = subst (P i) (sym (branch_at_lem i v h l)) (f i v h l)
      go (yes h) (no l) = subst (P i) (sym (get_or-eq_default (at (nodes_of F s) i).branches blank (omega (arith, width_at i h)))) (z i)
      go (no h) d =
          let e : at (nodes_of F s) i ≡ empty = get_or-eq_default (nodes_of F s) empty (omega (arith, nodes_length)) in
          subst (λ (x : Node K). P i (get_or x.branches v blank)) (sym e) (z i)

  pub roots_length : length (roots_of F s) ≡ heads F s
  unfolding roots_of
  roots_length = row_length 0 (heads F s) (root F s)

  pub roots_at : (r : ℕ) → r < heads F s → get_or (roots_of F s) r blank ≡ root F s r
  unfolding roots_of
  roots_at r h = row_at 0 (heads F s) (root F s) r blank h ∙ ap (root F s) (zero-add r)
