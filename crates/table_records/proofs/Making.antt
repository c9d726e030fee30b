-- The unique search and the making of a node, for every table that is regular. Assumes nothing.
use mathlib.Core.Path.{◌≡◌, refl, sym, ap, ap₂, subst, ◌∙◌}
use mathlib.Core.Logic.{◌⊎◌, inl, inr, ⊎_elim}
use mathlib.Core.List.{List, [], ◌∷◌, ◌++◌}
use mathlib.Core.Option.{none, some}
use Prim.Native.Nat.{ℕ, suc, ◌+◌, ◌≤◌, ◌<◌}
use native.Mathlib.Numerals.{add-one}
use native.Mathlib.Omega.{arith}
use lib.ListN.{length, get_or, get_or-eq_default}
use lib.Seq.{take_all, take_at}
use Rattle.theory.specs.Kind.{Kind}
use Rattle.theory.specs.Build.{Ext, make}
use Rattle.theory.specs.Deciding.{Alike}
use Rattle.theory.specs.Diagrams.{Branch, Node, at, blank}
use Rattle.theory.specs.WellFormed.{Ok, WellFormed}
use Rattle.theory.proofs.Making.{make_alike, make_at, make_last, wf_new}
use Rattle.theory.proofs.Offsets.{Level, branch_to}
use Rattle.theory.proofs.WellFormed.{length_snoc}
use Rattle.table_words.specs.Table.{Table, Regular, branches, node_at, nodes}
use Rattle.table_words.specs.Holding.{Lawful, Holds, Gives}
use Rattle.table_words.specs.Words.{listed, Kept}
use Rattle.table_words.proofs.Reading.{length_nodes, at_nodes, bodies_same, node_is}
use Rattle.table_words.proofs.Filling.{grown_refl}
use Rattle.table_words.proofs.Sparing.{spare_ext}
use Rattle.table_words.proofs.Tab.{split, tab_snoc, tab_ext, length_tab, get_or_tab}
use Rattle.table_words.proofs.Words.{length_sizes, at_sizes, kept_refl, kept_trans, kept_capacity, kept_size, kept_sizes, pos_sizes}
use Rattle.std.proofs.Common.{None}
use Rattle.table_records.specs.Changes.{Pushed, RecordIs, Finds}
use Rattle.table_records.specs.Nodes.{NodesLaid, layout_of, Listed, node_of, Behind, Absent}
use Rattle.table_records.proofs.Laying.{pushed_kept, pushed_laid}
use Rattle.promises.specs.Tab.{tab}
use Rattle.promises.specs.Words.{nodes_by, capacity, features, size, sizes, count, word, feature, body}

-- such a table is a lawful holder
pub lawful : {K : Kind} (T : Table K) → Lawful (layout_of T)
lawful T =
    record {
      kept_refl = kept_refl;
      kept_trans = kept_trans;
      kept_capacity = kept_capacity;
      kept_sizes = λ w w' ok k. kept_sizes w w' k ok.laid.few;
      within = λ w ok. omega (arith, length_nodes T w, ok.laid.within);
      positive = λ w ok. pos_sizes w (λ k h. omega (arith, ok.laid.large k h));
    }

module _ {K : Kind} {T : Table K} (L : Regular T) where
  -- ---- a record more is a node more
  module _ (w w' : List ℕ) (k : ℕ) (l : List ℕ) {x y : ℕ} (ok : NodesLaid T w) (less : count w < capacity w) (hk : k < features w) (p : Pushed w w' k l x y) where
    kept : Kept w w'
    kept = pushed_kept w w' k l less p

    sz : (j : ℕ) → j < features w → size w' j ≡ size w j
    sz = kept_size w w' kept ok.laid.few

    most : (j : ℕ) → j < features w → size w j ≤ 8
    most j h = (ok.laid.large j h).1

    which : (i : ℕ) → i < count w' → (i < count w) ⊎ (i ≡ count w)
    which i a = ⊎_elim (λ b. inl b) (λ b. inr (omega (arith, p.more))) (split i (count w))

    size_old : (i : ℕ) → i < count w → size w' (feature w' i) ≡ size w (feature w i)
    size_old i a = ap (size w') (p.old i 0 a (omega arith)) ∙ sz (feature w i) (ok.laid.tests i a)

    size_new : size w' (feature w' (count w)) ≡ size w k
    size_new = ap (size w') p.feature ∙ sz k hk

    node_old : (i : ℕ) → i < count w → node_at T w' i ≡ node_at T w i
    node_old i a =
        let t = ok.laid.tests i a in
        node_is L w' i (feature w i) (size w (feature w i)) (body w i) (p.old i 0 a (omega arith)) (sz (feature w i) t) (most (feature w i) t)
        (λ v b. p.old i (1 + v) a (omega arith))

    node_new : node_at T w' (count w) ≡ node_of T w k l
    node_new = node_is L w' (count w) k (size w k) (listed l) p.feature (sz k hk) (most k hk) p.new

    pub pushed_nodes : nodes T w' ≡ nodes T w ++ (node_of T w k l ∷ [])
    unfolding nodes_by
    pushed_nodes =
        ap (tab (node_at T w')) (p.more ∙ add-one (count w)) ∙ tab_snoc (node_at T w') (count w)
        ∙ ap₂ (λ (a : List (Node K)) (b : Node K). a ++ (b ∷ [])) (tab_ext (node_at T w') (node_at T w) (count w) node_old) node_new

    -- the spare words of the old nodes are kept, and are theirs in the longer list
    longer_by : Ext (nodes T w) (nodes T w')
    longer_by = record { more = node_of T w k l ∷ []; ends = pushed_nodes }

    sizes_same : sizes w' ≡ sizes w
    sizes_same = kept_sizes w w' kept ok.laid.few

    spare_old : WellFormed (sizes w) (nodes T w) → (i j : ℕ) → i < count w → j < 2 → word w' i (14 + j) ≡ T.spare_of (sizes w') (nodes T w') i j
    spare_old f i j h b =
        p.old i (14 + j) h (omega arith) ∙ ok.spared i j h b
        ∙ spare_ext L (sizes w) (nodes T w) (nodes T w') f longer_by i j (omega (arith, length_nodes T w))
        ∙ ap (λ (S : List ℕ). T.spare_of S (nodes T w') i j) (sym sizes_same)

    spare_new : Behind T w k l x y → (j : ℕ) → j < 2 → word w' (count w) (14 + j) ≡ T.spare_of (sizes w') (nodes T w') (count w) j
    spare_new sp j b = p.spare j b ∙ sp j b ∙ sym (ap₂ (λ (S : List ℕ) (M : List (Node K)). T.spare_of S M (count w) j) sizes_same pushed_nodes)

    -- laid again, where the spare words are those of the new node
    pub pushed_nodes_laid : WellFormed (sizes w) (nodes T w) → T.Padded (size w k) (listed l) → Behind T w k l x y → NodesLaid T w'
    pushed_nodes_laid f pad sp =
        record {
          laid = pushed_laid w w' k l ok.laid less hk p;
          padded = λ i a. ⊎_elim
              (λ b. rw (size_old i b)
              (L.padded (size w (feature w i)) (body w i) (body w' i) (λ v h. sym (p.old i (1 + v) b (omega arith))) (ok.padded i b)))
              (λ d. subst (λ (j : ℕ). T.Padded (size w' (feature w' j)) (body w' j)) (sym d)
              (rw size_new (L.padded (size w k) (listed l) (body w' (count w)) (λ v h. sym (p.new v h)) pad)))
              (which i a);
          spared = λ i j a b. ⊎_elim (λ q. spare_old f i j q b) (λ d. rw d (spare_new sp j b)) (which i a);
        }

  module _ (w : List ℕ) (k : ℕ) (l : List ℕ) (ok : Holds (layout_of T) w) (hk : k < features w) (li : Listed T w k l) where
    abbrev bs : List (Branch K)
    bs = branches T (size w k) (listed l)

    abbrev N : List (Node K)
    N = nodes T w

    many : (2 ≤ size w k) × (size w k ≤ 8)
    many = ok.laid.laid.large k hk

    pub length_bs : length bs ≡ size w k
    length_bs = length_tab (T.arm (listed l)) (size w k)

    pub at_bs : (v : ℕ) → v < size w k → get_or bs v blank ≡ T.arm (listed l) v
    at_bs v h = get_or_tab (T.arm (listed l)) (size w k) v blank h

    -- ---- the unique search
    -- equal branches need no node
    pub found_same : ((v : ℕ) → v < size w k → T.arm (listed l) v ≡ T.arm (listed l) 0) → make k bs N ≡ (T.arm (listed l) 0, N)
    found_same a =
        make_alike k bs N (T.arm (listed l) 0) (λ v h. at_bs v (omega (arith, length_bs)) ∙ a v (omega (arith, length_bs)))
        (omega (arith, length_bs, many.0))

    pub alike_arms : Alike blank bs → (v : ℕ) → v < size w k → T.arm (listed l) v ≡ T.arm (listed l) 0
    alike_arms a v h = sym (at_bs v h) ∙ a v (omega (arith, length_bs)) ∙ at_bs 0 (omega (arith, many.0))

    -- a node of the list is a record of the list, word for word
    node_record : (i : ℕ) → i < count w → at N i ≡ node_of T w k l → RecordIs w i k l
    node_record i h e =
        let d : node_at T w i ≡ node_of T w k l = sym (at_nodes T w i h) ∙ e in
        let f : feature w i ≡ k = ap (λ (x : Node K). x.feature) d in
        let s : size w (feature w i) ≡ size w k = ap (size w) f in
        record {
          feature = f;
          each = bodies_same L (size w k) (body w i) (listed l) many.1
              (sym (ap (λ (m : ℕ). branches T m (body w i)) s) ∙ ap (λ (x : Node K). x.branches) d)
              (rw s at (ok.laid.padded i h))
              li.pad;
        }

    -- an equal node is there
    pub found_node : Level bs → (i : ℕ) → i < count w → ¬ Alike blank bs → RecordIs w i k l → make k bs N ≡ (branch_to i, N)
    found_node z i h n q =
        make_at (sizes w) k bs N ok.wf z i (omega (arith, length_nodes T w))
        (at_nodes T w i h ∙ node_is L w i k (size w k) (listed l) q.feature refl many.1 q.each) n

    -- neither: the branch must be made
    pub found_none : ¬ Alike blank bs → Finds w k l None → Absent T w k l
    found_none n f =
        record {
          varied = n;
          missing = λ q. let h : q.0 < count w = omega (arith, q.1, length_nodes T w) in f q.0 h (node_record q.0 h q.2);
        }

    -- ---- making
    good_bs : (v : ℕ) → Ok N (suc k) (get_or bs v blank)
    good_bs v = ⊎_elim
        (λ h. rw (at_bs v h) (li.each v h))
        (λ h. let e : get_or bs v blank ≡ blank = get_or-eq_default bs blank (omega (arith, length_bs)) in rw e tt)
        (split v (size w k))

    longer : length (N ++ (node_of T w k l ∷ [])) ≡ suc (count w)
    longer = length_snoc N (node_of T w k l) ∙ ap suc (length_nodes T w)

    -- the list with the new node is well formed
    pub new_wf : Level bs → Absent T w k l → WellFormed (sizes w) (N ++ (node_of T w k l ∷ []))
    new_wf z ab = wf_new (sizes w) N ok.wf k bs z (omega (arith, length_sizes w)) (length_bs ∙ sym (at_sizes w k hk)) good_bs ab.varied ab.missing

    -- where there is room, it is the last node
    pub made_new : Level bs → (w' : List ℕ) {x y : ℕ} → Absent T w k l → count w < capacity w → Behind T w k l x y → Pushed w w' k l x y
        → Gives (layout_of T) w w' (make k bs N) (some (branch_to (count w)))
    made_new z w' ab less sp p =
        let n = longer in
        let q : nodes T w' ≡ N ++ (node_of T w k l ∷ []) = pushed_nodes w w' k l ok.laid less hk p in
        let s : sizes w' ≡ sizes w = kept_sizes w w' (pushed_kept w w' k l less p) ok.laid.laid.few in
        rw (make_last k bs N z ab.varied ab.missing)
        (record {
          grown = record {
            kept = pushed_kept w w' k l less p;
            well = record {
              laid = pushed_nodes_laid w w' k l ok.laid less hk p ok.wf li.pad sp;
              wf = rw (q, s) (new_wf z ab);
            };
            holds = q ∙ sym (take_all (capacity w) (N ++ (node_of T w k l ∷ [])) (omega arith));
          };
          answers = (ap (λ (i : ℕ). let b : Branch K = branch_to i in b) (sym (length_nodes T w)), omega arith);
        })

    -- where there is none, it is not made
    pub made_none : Level bs → Absent T w k l → (count w < capacity w → ⊥) → Gives (layout_of T) w w (make k bs N) none
    made_none z ab full =
        let n = longer in
        let c : length N ≡ capacity w = omega (arith, length_nodes T w, ok.laid.laid.within) in
        rw (make_last k bs N z ab.varied ab.missing)
        (record {
          grown = record { kept = kept_refl w; well = ok; holds = sym (take_at N (node_of T w k l ∷ []) (capacity w) c) };
          answers = omega arith;
        })

    -- what is there already
    pub made_there : (b : Branch K) → make k bs N ≡ (b, N) → Gives (layout_of T) w w (make k bs N) (some b)
    made_there b e = rw e (record { grown = grown_refl (lawful T) w ok; answers = (refl, (lawful T).within w ok.laid) })
