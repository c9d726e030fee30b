-- Branch words that sit go where they may, for every kind; nodes that are so are a well-formed node list, and the other way round. Assumes nothing.
use mathlib.Core.Path.{◌≡◌, refl, sym, ap, subst, ◌∙◌}
use mathlib.Core.Logic.{⊎_elim}
use mathlib.Core.List.{List}
use Prim.Native.Nat.{ℕ, suc, ◌+◌, ◌-◌, ◌≤◌, ◌<◌}
use native.Mathlib.Nat.{le_refl}
use native.Mathlib.Omega.{arith}
use native.Mathlib.Numerals.{add-one}
use lib.ListN.{length, get_or}
use Rattle.theory.specs.Kind.{Kind}
use Rattle.theory.specs.Diagrams.{Branch, Node, Target, at, blank, leaf, node}
use Rattle.theory.specs.WellFormed.{Fits, Under, WellFormed}
use Rattle.theory.proofs.WellFormed.{under_weaken}
use Rattle.table_words.specs.Table.{Table, Regular, branches, node_at, nodes}
use Rattle.table_words.proofs.Reading.{branch_past, length_nodes, at_nodes, at_nodes_by, bodies_same, node_is}
use Rattle.table_words.proofs.Tab.{same, split, length_tab, get_or_tab}
use Rattle.table_words.proofs.Words.{length_sizes, at_sizes}
use Rattle.promises.specs.Words.{features, size, count, sizes, feature, body, nodes_by}
use Rattle.promises.specs.Sound.{Same, Alone, Chained, Sizes, Sits}

-- a word that sits below node m sits below every later one, and lower features are no harder
pub sits_more : {first : ℕ} (w : List ℕ) (m m' k k' b : ℕ) → m ≤ m' → k' ≤ k → Sits first w m k b → Sits first w m' k' b
sits_more w m m' k k' b h l s = record { below = omega (arith, s.below); above = λ q. omega (arith, s.above q) }

-- nodes whose body words say `arm`, where branch words below `first` end and the others say nodes
module _ {K : Kind} (arm : (ℕ → ℕ) → ℕ → Branch K) (first : ℕ) (goal : ℕ → Target K) (ends : (x : ℕ) → x < first → (e : K.End) × (goal x ≡ leaf e))
    (indices : (i : ℕ) → goal (first + i) ≡ node i) (w : List ℕ) (m k b : ℕ) (hm : m ≤ count w) where
  goal_node : (i : ℕ) → b ≡ first + i → goal b ≡ node i
  goal_node i e = ap goal e ∙ indices i

  feature_at : (i : ℕ) → i < count w → (at (nodes_by arm w) i).feature ≡ feature w i
  feature_at i h = ap (λ (x : Node K). x.feature) (at_nodes_by arm w i h)

  -- a word that sits goes where it may, ..
  pub sits_goes : Sits first w m k b → Under (nodes_by arm w) m k (goal b)
  sits_goes s = ⊎_elim
      (λ h. let e = ends b h in subst (Under (nodes_by arm w) m k) (sym e.1) tt)
      (λ h.
      let l : b - first < m = omega (arith, s.below) in
      let u : Under (nodes_by arm w) m k (node (b - first)) = (l, omega (arith, s.above h, feature_at (b - first) (omega arith))) in
      subst (Under (nodes_by arm w) m k) (sym (goal_node (b - first) (omega arith))) u)
      (split b first)

  -- .. and the other way round
  pub goes_sits : Under (nodes_by arm w) m k (goal b) → Sits first w m k b
  goes_sits u = ⊎_elim
      (λ h. record { below = omega arith; above = λ g. absurd (omega arith) })
      (λ h.
      let q : Under (nodes_by arm w) m k (node (b - first)) = subst (Under (nodes_by arm w) m k) (goal_node (b - first) (omega arith)) u in
      record { below = omega (arith, q.0); above = λ g. omega (arith, q.1, feature_at (b - first) (omega (arith, q.0))) })
      (split b first)

module _ {K : Kind} {T : Table K} (L : Regular T) (w : List ℕ) where
  abbrev N : List (Node K)
  N = nodes T w

  length_N : length N ≡ count w
  length_N = length_nodes T w

  pub sits_under : (m k b : ℕ) → m ≤ count w → Sits T.first w m k b → Under N m k (T.goal b)
  sits_under m k b hm s = sits_goes T.arm T.first T.goal L.ends L.indices w m k b hm s

  pub under_sits : (m k b : ℕ) → m ≤ count w → Under N m k (T.goal b) → Sits T.first w m k b
  under_sits m k b hm u = goes_sits T.arm T.first T.goal L.ends L.indices w m k b hm u

  -- among the nodes in use
  pub sits_good : (m k b : ℕ) → m ≤ count w → Sits T.first w m k b → Under (nodes T w) (length (nodes T w)) k (T.goal b)
  sits_good m k b h s = under_weaken N m (length N) k k (T.goal b) (omega (arith, length_N)) (le_refl _) (sits_under m k b h s)

  pub good_sits : (k b : ℕ) → Under (nodes T w) (length (nodes T w)) k (T.goal b) → Sits T.first w (count w) k b
  good_sits k b u = under_sits (count w) k b (le_refl _) (subst (λ (m : ℕ). Under N m k (T.goal b)) length_N u)

-- node i by itself
pub record NodeFits {K : Kind} (T : Table K) (w : List ℕ) (i : ℕ) : Type 0 where
  pub known : feature w i < features w
  pub lower : (v : ℕ) → v < size w (feature w i) → Sits T.first w i (feature w i + 1) (T.word (body w i) v)
  pub differ : ((v : ℕ) → v < size w (feature w i) → T.arm (body w i) v ≡ T.arm (body w i) 0) → ⊥
  pub level : (T.arm (body w i) 0).adds ≡ K.nil
  pub padded : T.Padded (size w (feature w i)) (body w i)

module _ {K : Kind} {T : Table K} (L : Regular T) (w : List ℕ) (sz : Sizes w) where
  -- ---- nodes that are so, without twins, are well formed
  module _ (ok : (i : ℕ) → i < count w → NodeFits T w i) where
    fits_at : (i : ℕ) → i < count w → Fits (sizes w) (nodes T w) i (node_at T w i)
    fits_at i h =
        let n = ok i h in
        let g = sz.large (feature w i) n.known in
        let e : length (node_at T w i).branches ≡ size w (feature w i) = length_tab (T.arm (body w i)) (size w (feature w i)) in
        record {
          known = omega (arith, length_sizes w, n.known);
          full = e ∙ sym (at_sizes w (feature w i) n.known);
          differ = λ a. n.differ (λ v hv. sym (arm_at v hv) ∙ a v (omega (arith, e)) ∙ arm_at 0 (omega arith));
          zeroed = ap (λ b. b.adds) (arm_at 0 (omega arith)) ∙ n.level;
          lower = λ v. ⊎_elim
              (λ hv. subst (Under (nodes T w) i (suc (feature w i))) (sym (ap (λ b. b.to) (arm_at v hv) ∙ L.arms (body w i) v))
              (rw add-one at (sits_under L w i (feature w i + 1) (T.word (body w i) v) (omega arith) (n.lower v hv))))
              (λ hv. rw (branch_past (T.arm (body w i)) (size w (feature w i)) v hv) tt)
              (split v (size w (feature w i)));
        }
      where
        arm_at : (v : ℕ) → v < size w (feature w i) → get_or (node_at T w i).branches v blank ≡ T.arm (body w i) v
        arm_at v hv = get_or_tab (T.arm (body w i)) (size w (feature w i)) v blank hv

    -- equal nodes have equal words
    same_words : (i j : ℕ) → i < count w → j < count w → node_at T w i ≡ node_at T w j → Same w i j
    same_words i j hi hj e =
        record {
          feature = f;
          each = bodies_same L (size w (feature w i)) (body w i) (body w j) (sz.large (feature w i) (ok i hi).known).1
              (ap (λ (x : Node K). x.branches) e ∙ ap branches_of (sym f)) (ok i hi).padded
              (subst (λ (k : ℕ). T.Padded (size w k) (body w j)) (sym f) (ok j hj).padded);
        }
      where
        f : feature w i ≡ feature w j
        f = ap (λ (x : Node K). x.feature) e

        branches_of : ℕ → List (Branch K)
        branches_of k = branches T (size w k) (body w j)

    pub nodes_wf : Chained w → WellFormed (sizes w) (nodes T w)
    nodes_wf ch =
        record {
          fits = λ i h. let l : i < count w = omega (arith, length_nodes T w) in rw (at_nodes T w i l) (fits_at i l);
          once = λ i j hi hj e.
              let li : i < count w = omega (arith, length_nodes T w) in
              let lj : j < count w = omega (arith, length_nodes T w) in
              apart i j li lj (sym (at_nodes T w i li) ∙ e ∙ at_nodes T w j lj);
        }
      where
        apart : (i j : ℕ) → i < count w → j < count w → node_at T w i ≡ node_at T w j → i ≡ j
        apart i j li lj e = ⊎_elim
            (λ h. absurd ((ch.single j lj).alone i h (same_words j i lj li (sym e))))
            (λ h. ⊎_elim (λ q. q) (λ q. absurd ((ch.single i li).alone j (omega (arith, q)) (same_words i j li lj e))) (same i j))
            (split i j)

  -- ---- and nodes of a well-formed list are so
  module _ (wf : WellFormed (sizes w) (nodes T w)) where
    fits_of : (i : ℕ) → i < count w → Fits (sizes w) (nodes T w) i (node_at T w i)
    fits_of i h = subst (Fits (sizes w) (nodes T w) i) (at_nodes T w i h) (wf.fits i (omega (arith, length_nodes T w)))

    pub wf_known : (i : ℕ) → i < count w → feature w i < features w
    wf_known i h = omega (arith, (fits_of i h).known, length_sizes w)

    pub wf_node : ((i : ℕ) → i < count w → T.Padded (size w (feature w i)) (body w i)) → (i : ℕ) → i < count w → NodeFits T w i
    wf_node pad i h =
        let f = fits_of i h in
        let g = sz.large (feature w i) (wf_known i h) in
        let e : length (node_at T w i).branches ≡ size w (feature w i) = length_tab (T.arm (body w i)) (size w (feature w i)) in
        record {
          known = wf_known i h;
          lower = λ v hv.
              under_sits L w i (feature w i + 1) (T.word (body w i) v) (omega arith)
              (rw add-one (subst (Under (nodes T w) i (suc (feature w i))) (ap (λ b. b.to) (arm_at v hv) ∙ L.arms (body w i) v) (f.lower v)));
          differ = λ a. f.differ (λ v hv. let l : v < size w (feature w i) = omega (arith, e) in arm_at v l ∙ a v l ∙ sym (arm_at 0 (omega arith)));
          level = sym (ap (λ b. b.adds) (arm_at 0 (omega arith))) ∙ f.zeroed;
          padded = pad i h;
        }
      where
        arm_at : (v : ℕ) → v < size w (feature w i) → get_or (node_at T w i).branches v blank ≡ T.arm (body w i) v
        arm_at v hv = get_or_tab (T.arm (body w i)) (size w (feature w i)) v blank hv

    pub wf_alone : (i : ℕ) → i < count w → Alone w i
    wf_alone i h =
        record {
          alone = λ j hj s.
              let l : j < count w = omega arith in
              let e : node_at T w i ≡ node_at T w j =
              node_is L w i (feature w j) (size w (feature w j)) (body w j) s.feature refl (sz.large (feature w j) (wf_known j l)).1 s.each in
              let q : i ≡ j = wf.once i j (omega (arith, length_nodes T w)) (omega (arith, length_nodes T w)) (at_nodes T w i h ∙ e ∙ sym (at_nodes T w j l)) in
              absurd (omega arith);
        }
