-- What the header and the nodes of words that are collected give, and what copying leaves of them. Assumes nothing.
use mathlib.Core.Path.{◌≡◌, refl, sym, ap, subst, ◌∙◌}
use mathlib.Core.List.{List}
use Prim.Native.Nat.{ℕ, suc, ◌+◌, ◌≤◌, ◌<◌}
use native.Mathlib.Omega.{arith}
use lib.ListN.{length}
use Rattle.theory.specs.Copying.{Copies, Half}
use Rattle.theory.specs.Diagrams.{Branch, Node, Target, at, empty, leaf, node}
use Rattle.theory.specs.Kind.{Kind}
use Rattle.theory.specs.Settings.{FeatureList, Pos}
use Rattle.theory.specs.WellFormed.{Under, WellFormed}
use Rattle.theory.proofs.Lists.{pos_of}
use Rattle.table_words.specs.Table.{Table, Regular, node_at, nodes}
use Rattle.table_words.proofs.Reading.{length_nodes, at_nodes, branch_at_lem, node_is}
use Rattle.table_words.proofs.Sparing.{spared_same}
use Rattle.table_words.proofs.Tab.{length_tab, get_or_tab, tab_ext}
use Rattle.table_words.proofs.Words.{length_sizes, at_sizes}
use Rattle.table_sweep.specs.Marks.{done, spot}
use Rattle.table_sweep.specs.Collecting.{copies, Framed, Good, Ready, Steady, Firm}
use Rattle.promises.specs.Tab.{tab}
use Rattle.promises.specs.Words.{nodes_by, capacity, features, size, count, sizes, feature, body}

-- a node's feature is one of the table's
known_in : {K : Kind} (w : List ℕ) {N : List (Node K)} {x : Node K} → WellFormed (sizes w) N → (i : ℕ) → i < length N → at N i ≡ x → x.feature < features w
known_in {K} w {N} {x} f i h e =
    let k : (at N i).feature < length (sizes w) = (f.fits i h).known in
    let q : (at N i).feature ≡ x.feature = ap (λ (y : Node K). y.feature) e in
    omega (arith, length_sizes w)

pub under_zero : {K : Kind} (N : List (Node K)) (m n k : ℕ) (t : Target K) → m ≤ n → Under N m k t → Under N n 0 t
under_zero N m n k (leaf p) h u = tt
under_zero N m n k (node j) h u = (omega (arith, u.0), omega arith)

-- ---- the copies by index
module _ {K : Kind} (T : Table K) where
  pub length_copies : (w : List ℕ) → length (copies T w) ≡ done w
  unfolding copies
  length_copies w = length_tab (λ n. node_at T w (spot w n)) (done w)

  at_copies : (w : List ℕ) (i : ℕ) → i < done w → at (copies T w) i ≡ node_at T w (spot w i)
  unfolding copies
  at_copies w i h = get_or_tab (λ n. node_at T w (spot w n)) (done w) i empty h

pub known_copy : {K : Kind} {T : Table K} {w : List ℕ} → Ready T w → (i : ℕ) → i < done w → feature w (spot w i) < features w
known_copy {K} {T} {w} r i h = known_in w r.half.wf i (omega (arith, length_copies T w)) (at_copies T w i h)

-- ---- the header, node i and its branch v
module _ {K : Kind} {T : Table K} {w : List ℕ} (f : Framed T w) where
  pub few : features w ≤ 16
  few = omega (arith, f.list.few, length_sizes w)

  pub size_most : (k : ℕ) → k < features w → size w k ≤ 8
  size_most k h = omega (arith, f.list.most k (omega (arith, length_sizes w)), at_sizes w k h)

  pub positive : Pos (sizes w)
  positive = pos_of (sizes w) (λ k h. omega (arith, f.list.least k h))

  pub known : (i : ℕ) → i < count w → feature w i < features w
  known i h = known_in w f.wf i (omega (arith, length_nodes T w)) (at_nodes T w i h)

  pub size_small : (i : ℕ) → i < count w → size w (feature w i) ≤ 8
  size_small i h = size_most (feature w i) (known i h)

  module _ (i v : ℕ) (h : i < count w) (hv : v < size w (feature w i)) where
    pub value_small : v < 8
    value_small = omega (arith, size_small i h)

    pub branch_under : Under (nodes T w) i (suc (at (nodes T w) i).feature) (T.arm (body w i) v).to
    branch_under =
        subst (λ (b : Branch K). Under (nodes T w) i (suc (at (nodes T w) i).feature) b.to) (branch_at_lem T w i v h hv) ((f.wf.fits i (omega (arith, length_nodes T w))).lower v)

    -- it goes to a node below n, where n is past node i
    pub branch_before : (n : ℕ) → i ≤ n → Under (nodes T w) n 0 (T.arm (body w i) v).to
    branch_before n l = under_zero (nodes T w) i n (suc (at (nodes T w) i).feature) (T.arm (body w i) v).to l branch_under

-- ---- what stays
pub steady_refl : (w : List ℕ) → Steady w w
steady_refl w = record { long = refl; low = λ j h. refl; middle = λ j h g. refl; near = λ i j h g n. refl; free = λ j h g. refl; past = λ j h. refl }

pub steady_trans : {a b c : List ℕ} → Steady a b → Steady b c → Steady a c
steady_trans {a} {b} {c} p q =
    let e : capacity b ≡ capacity a = p.low 1 (omega arith) in
    let c : count b ≡ count a = p.low 19 (omega arith) in
    record {
      long = q.long ∙ p.long;
      low = λ j h. q.low j h ∙ p.low j h;
      middle = λ j h g. q.middle j h g ∙ p.middle j h g;
      near = λ i j h g n. q.near i j (omega arith) g n ∙ p.near i j h g n;
      free = λ j h g. q.free j (omega arith) (omega arith) ∙ p.free j h g;
      past = λ j h. q.past j (omega arith) ∙ p.past j h;
    }

module _ {w w' : List ℕ} (k : Steady w w') where
  pub same_capacity : capacity w' ≡ capacity w
  same_capacity = k.low 1 (omega arith)

  pub same_count : count w' ≡ count w
  same_count = k.low 19 (omega arith)

  pub same_features : features w' ≡ features w
  same_features = k.low 2 (omega arith)

pub firm_refl : (w : List ℕ) → Firm w w
firm_refl w = record { stay = refl; heads = λ h g. refl; links = λ i h. refl }

pub firm_trans : {a b c : List ℕ} → Firm a b → Firm b c → Firm a c
firm_trans p q =
    let e = p.stay in record { stay = q.stay ∙ p.stay; heads = λ h g. q.heads h g ∙ p.heads h g; links = λ i h. q.links i (omega arith) ∙ p.links i h }

-- a record with the words of another says the same
module _ {K : Kind} {T : Table K} (L : Regular T) (w w' : List ℕ) (i i' : ℕ) (f : feature w' i' ≡ feature w i) (s : size w' (feature w i) ≡ size w (feature w i))
    (b : (v : ℕ) → v < 12 → body w' i' v ≡ body w i v) where
  pub node_same : size w (feature w i) ≤ 8 → node_at T w' i' ≡ node_at T w i
  node_same m = node_is L w' i' (feature w i) (size w (feature w i)) (body w i) f s m b

  pub padded_same : T.Padded (size w (feature w i)) (body w i) → T.Padded (size w' (feature w' i')) (body w' i')
  padded_same p =
      subst (λ (n : ℕ). T.Padded n (body w' i')) (sym (ap (size w') f ∙ s)) (L.padded (size w (feature w i)) (body w i) (body w' i') (λ v h. sym (b v h)) p)

module _ {K : Kind} {T : Table K} (L : Regular T) {w w' : List ℕ} (f : Framed T w) (k : Steady w w') where
  pub same_size : (n : ℕ) → n < features w → size w' n ≡ size w n
  same_size n h = k.low (3 + n) (omega (arith, few f))

  pub same_sizes : sizes w' ≡ sizes w
  unfolding sizes
  same_sizes = ap (tab (size w')) (same_features k) ∙ tab_ext (size w') (size w) (features w) same_size

  pub same_nodes : nodes T w' ≡ nodes T w
  unfolding nodes_by
  same_nodes =
      ap (tab (node_at T w')) (same_count k)
      ∙ tab_ext (node_at T w') (node_at T w) (count w)
      (λ i h. let l : i < capacity w = omega (arith, f.within) in
      node_same L w w' i i (k.near i 0 l (omega arith) (omega arith)) (same_size (feature w i) (known f i h)) (λ v hv. k.near i (1 + v) l (omega arith) (omega arith)) (size_small f i h))

  pub steady_framed : Framed T w'
  steady_framed =
      let e1 = same_capacity k in
      let e19 = same_count k in
      record {
        room = omega (arith, f.room, k.long);
        most = omega (arith, f.most);
        within = omega (arith, f.within);
        list = subst FeatureList (sym same_sizes) f.list;
        wf = subst (λ (S : List ℕ). WellFormed S (nodes T w')) (sym same_sizes) (subst (WellFormed (sizes w)) (sym same_nodes) f.wf);
        spared = spared_same T w w' (same_count k) same_sizes same_nodes (λ i j h g. k.near i (14 + j) (omega (arith, f.within)) (omega arith) (omega arith)) f.spared;
      }

  -- branch v of node i is as it was, so it may be copied
  module _ (i v : ℕ) (h : i < count w) (hv : v < size w (feature w i)) where
    pub arm_kept : T.arm (body w' i) v ≡ T.arm (body w i) v
    arm_kept = L.reads (body w' i) (body w i) v (value_small f i v h hv) (λ u l. k.near i (1 + u) (omega (arith, f.within)) (omega arith) (omega arith))

    pub still_before : (n : ℕ) → i ≤ n → Under (nodes T w') n 0 (T.arm (body w' i) v).to
    still_before n l = rw (same_nodes, arm_kept) (branch_before f i v h hv n l)

    pub still_good : Good T w' (T.arm (body w' i) v).to
    still_good = still_before (length (nodes T w')) (omega (arith, length_nodes T w', same_count k))

  pub half_back : {M : List (Node K)} {g : ℕ → ℕ} → Half (sizes w') (nodes T w') M g → Half (sizes w) (nodes T w) M g
  half_back {M} {g} h = subst (λ (S : List ℕ). Half S (nodes T w) M g) same_sizes (subst (λ (O : List (Node K)). Half (sizes w') O M g) same_nodes h)

  pub half_on : {M : List (Node K)} {g : ℕ → ℕ} → Half (sizes w) (nodes T w) M g → Half (sizes w') (nodes T w') M g
  half_on {M} {g} h =
      subst (λ (S : List ℕ). Half S (nodes T w') M g) (sym same_sizes) (subst (λ (O : List (Node K)). Half (sizes w) O M g) (sym same_nodes) h)

  pub copies_back : {b b' : Target K} {M M' : List (Node K)} → Copies (sizes w') (nodes T w') b M b' M' → Copies (sizes w) (nodes T w) b M b' M'
  copies_back {b} {b'} {M} {M'} h =
      subst (λ (S : List ℕ). Copies S (nodes T w) b M b' M') same_sizes (subst (λ (O : List (Node K)). Copies (sizes w') O b M b' M') same_nodes h)
