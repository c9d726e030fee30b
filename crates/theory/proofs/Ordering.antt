-- What `build` makes is met in order; a tidy node list is the table of what its roots mean, and the other way round. Assumes nothing.
use mathlib.Core.Path.{◌≡◌, refl, sym, ap, ◌∙◌, subst}
use mathlib.Core.Option.{Option, some}
use mathlib.Core.List.{List, [], ◌∷◌, ◌++◌, map}
use Prim.Native.Nat.{ℕ, suc, ◌≤◌, ◌<◌}
use native.Mathlib.Nat.{zero-add, le_refl}
use native.Mathlib.Decide.{ℕ_discrete, dec_lt}
use native.Mathlib.Omega.{arith}
use lib.ListN.{length, get_or, drop}
use lib.Seq.{get_or-append_seam, take-length}
use Rattle.theory.specs.Kind.{Kind}
use Rattle.theory.specs.Deciding.{Alike, In, alike_decided, find}
use Rattle.theory.specs.Settings.{Pos}
use Rattle.theory.specs.Functions.{Fun, held, parts}
use Rattle.theory.specs.Diagrams.{Branch, Node, Target, at, base, blank, empty, leaf, less, meaning, node, node_of, value}
use Rattle.theory.specs.Comparing.{branch_discrete, node_discrete}
use Rattle.theory.specs.Rests.{Free}
use Rattle.theory.specs.Tally.{free_decided}
use Rattle.theory.specs.WellFormed.{AllOk, Mean, Means, Under, WellFormed}
use Rattle.theory.specs.Build.{Built, Ext, below, build, decide, each, make, table}
use Rattle.theory.specs.Walk.{Tidy, bind, close, finish, scan, scans, step, visit}
use Rattle.theory.proofs.Lists.{drop_head}
use Rattle.theory.proofs.Growing.{build_cons, build_grows, build_nil, each_grows, ext_le, ext_refl, ext_trans, make_grows}
use Rattle.theory.proofs.WellFormed.{at_ext, at_more, length_snoc, wf_empty}
use Rattle.theory.proofs.Values.{mean_more, mean_prefix, means_at, means_length, node_mean}
use Rattle.theory.proofs.Meaning.{Right, Rights, build_right, builds_right, each_right}
use Rattle.theory.proofs.Canonical.{build_skips, canonical}
use Rattle.theory.proofs.Walking.{AllWalked, Told, scan_cons, scan_nil, scan_sound, scans_map, scans_sound}

pub close_same : (i d : ℕ) → d ≡ i → close i (some d) ≡ some (suc i)
unfolding close finish
close_same i d h = go (ℕ_discrete d i)
  where
    go : (e : Dec (d ≡ i)) → finish i d e ≡ some (suc i)
    go (yes e) = refl
    go (no e) = absurd (e h)

module _ {K : Kind} where
  abbrev pub Newer : ℕ → List (Node K) → List (Node K) → Type 0
  Newer k N N' = (i : ℕ) → length N ≤ i → i < length N' → k ≤ (at N' i).feature

  newer_trans : (k : ℕ) (A B C : List (Node K)) → Newer k A B → Ext B C → Newer k B C → Newer k A C
  newer_trans k A B C p e q i hi hc = go (dec_lt i (length B))
    where
      go : Dec (i < length B) → k ≤ (at C i).feature
      go (yes h) = subst (λ (x : Node K). k ≤ x.feature) (sym (ap (λ (l : List (Node K)). at l i) e.ends ∙ at_more B e.more i h)) (p i hi h)
      go (no h) = q i (omega arith) hc

  newer_lower : (k k' : ℕ) (A B : List (Node K)) → k' ≤ k → Newer k A B → Newer k' A B
  newer_lower k k' A B l p i hi hb = omega (arith, p i hi hb)

  decide_newer : (k : ℕ) (bs : List (Branch K)) (N : List (Node K)) (d : Dec (Alike blank bs)) (f : Dec (In empty (node_of k bs) N)) → Newer k N (decide k bs N d f).1
  unfolding decide
  decide_newer k bs N (yes a) f i hi h = absurd (omega arith)
  decide_newer k bs N (no a) (yes f) i hi h = absurd (omega arith)
  decide_newer k bs N (no a) (no f) i hi h =
      let e : i ≡ length N = omega (arith, length_snoc N (node_of k bs)) in
      let q : at (N ++ (node_of k bs ∷ [])) i ≡ node_of k bs = rw e (get_or-append_seam N (node_of k bs) [] empty) in
      subst (λ (x : Node K). k ≤ x.feature) (sym q) (le_refl k)

  make_newer : (k : ℕ) (bs : List (Branch K)) (N : List (Node K)) → Newer k N (make k bs N).1
  unfolding make
  make_newer k bs N = decide_newer k bs N (alike_decided branch_discrete blank bs) (find node_discrete empty (node_of k bs) N)

  each_newer : (k : ℕ) (f : Fun K → List (Node K) → Built K) → ((g : Fun K) (N : List (Node K)) → Ext N (f g N).1) → ((g : Fun K) (N : List (Node K)) → Newer k N (f g N).1) →
      (gs : List (Fun K)) (N : List (Node K)) → Newer k N (each f gs N).1
  each_newer k f e h [] N = λ i hi hn. absurd (omega arith)
  each_newer k f e h (g ∷ gs) N = newer_trans k N (f g N).1 (each f gs (f g N).1).1 (h g N) (each_grows f e gs (f g N).1) (each_newer k f e h gs (f g N).1)

  -- the nodes that `build` at k appends have feature k or higher
  pub build_newer : (k : ℕ) (ns : List ℕ) (g : Fun K) (N : List (Node K)) → Newer k N (build k ns g N).1
  build_newer k [] g N = rw build_nil (λ i hi h. absurd (omega arith))
  build_newer k (n ∷ ns) g N =
      rw build_cons
      (newer_trans k N (below k n ns g N).1 (make k (below k n ns g N).0 (below k n ns g N).1).1
      (newer_lower (suc k) k N (below k n ns g N).1 (omega arith) (each_newer (suc k) (build (suc k) ns) (build_grows (suc k) ns) (build_newer (suc k) ns) (parts 0 n g) N))
      (make_grows k _ _) (make_newer k (below k n ns g N).0 (below k n ns g N).1))

  visit_wait : (x : Node K) (k i c : ℕ) (f : Target K → ℕ → Option ℕ) (d : Dec (x.feature ≡ k)) (e : Dec (i < c)) → ¬ (x.feature ≡ k) → visit x k i c f d e ≡ f (node i) c
  unfolding visit
  visit_wait x k i c f (yes p) e h = absurd (h p)
  visit_wait x k i c f (no p) e h = refl

  visit_done : (x : Node K) (k i c : ℕ) (f : Target K → ℕ → Option ℕ) (d : Dec (x.feature ≡ k)) (e : Dec (i < c)) → x.feature ≡ k → i < c → visit x k i c f d e ≡ some c
  unfolding visit
  visit_done x k i c f (yes p) (yes e) h l = refl
  visit_done x k i c f (yes p) (no e) h l = absurd (e l)
  visit_done x k i c f (no p) e h l = absurd (p h)

  visit_close : (x : Node K) (k i c : ℕ) (f : Target K → ℕ → Option ℕ) (d : Dec (x.feature ≡ k)) (e : Dec (i < c)) → x.feature ≡ k → ¬ (i < c)
      → visit x k i c f d e ≡ close i (scans f x.branches c)
  unfolding visit
  visit_close x k i c f (yes p) (yes e) h l = absurd (l e)
  visit_close x k i c f (yes p) (no e) h l = refl
  visit_close x k i c f (no p) e h l = absurd (p h)

  pub step_wait : (N : List (Node K)) (k : ℕ) (f : Target K → ℕ → Option ℕ) (b : Target K) (c : ℕ) → Under N (length N) (suc k) b → step N k f b c ≡ f b c
  unfolding step
  step_wait N k f (leaf p) c o = refl
  step_wait N k f (node i) c o = visit_wait (at N i) k i c f (ℕ_discrete (at N i).feature k) (dec_lt i c) (omega arith)

  pub step_done : (N : List (Node K)) (k : ℕ) (f : Target K → ℕ → Option ℕ) (i c : ℕ) → (at N i).feature ≡ k → i < c → step N k f (node i) c ≡ some c
  unfolding step
  step_done N k f i c e h = visit_done (at N i) k i c f (ℕ_discrete (at N i).feature k) (dec_lt i c) e h

  pub step_close : (N : List (Node K)) (k : ℕ) (f : Target K → ℕ → Option ℕ) (i c : ℕ) → (at N i).feature ≡ k → ¬ (i < c) → step N k f (node i) c ≡ close i (scans f (at N i).branches c)
  unfolding step
  step_close N k f i c e h = visit_close (at N i) k i c f (ℕ_discrete (at N i).feature k) (dec_lt i c) e h

  each_complete : (S : List ℕ) (k : ℕ) (ns : List ℕ) → drop k S ≡ ns → (N : List (Node K)) (f : Target K → ℕ → Option ℕ) →
      ((g : Fun K) (M : List (Node K)) → WellFormed S M → Ext (build k ns g M).1 N → f (build k ns g M).0.to (length M) ≡ some (length (build k ns g M).1)) →
      (gs : List (Fun K)) (M : List (Node K)) → WellFormed S M → Ext (each (build k ns) gs M).1 N → scans f (each (build k ns) gs M).0 (length M) ≡ some (length (each (build k ns) gs M).1)
  unfolding scans bind
  each_complete S k ns rest N f h [] M w e = refl
  each_complete S k ns rest N f h (g ∷ gs) M w e =
      let M1 : List (Node K) = (build k ns g M).1 in
      ap (λ (o : Option ℕ). bind o (λ d. scans f (each (build k ns) gs M1).0 d)) (h g M w (ext_trans (each_grows (build k ns) (build_grows k ns) gs M1) e))
      ∙ each_complete S k ns rest N f h gs M1 (build_right S k ns rest g M w).wf e

  module _ (S : List ℕ) (k n : ℕ) (ns : List ℕ) (rest : drop k S ≡ n ∷ ns) (pos : Pos (n ∷ ns)) (g : Fun K) (M : List (Node K)) (w : WellFormed S M) (N : List (Node K)) (f : Target K → ℕ → Option ℕ)
      (bs : List (Branch K)) (N1 : List (Node K)) (grow : Ext M N1) (w1 : WellFormed S N1) (newer : Newer (suc k) M N1) (size : length bs ≡ n)
      (m : (v : ℕ) → v < n → Mean N1 (suc k) ns (get_or bs v blank) (held v g)) (bound : ¬ Free n ns g)
      (met : Ext N1 N → scans f bs (length M) ≡ some (length N1)) where
    not_alike : ¬ Alike blank bs
    unfolding Free
    not_alike a = bound (λ v h s x. sym ((m v h).says s x) ∙ ap (λ (b : Branch K). value N1 (suc k) b s) (a v (omega arith)) ∙ (m 0 pos.0).says s x)

    decide_complete : (d : Dec (Alike blank bs)) (e : Dec (In empty (node_of k bs) N1)) → build k (n ∷ ns) g M ≡ decide k bs N1 d e → Ext (decide k bs N1 d e).1 N →
        step N k f (decide k bs N1 d e).0.to (length M) ≡ some (length (decide k bs N1 d e).1)
    unfolding decide
    decide_complete (yes a) e q x = absurd (not_alike a)
    decide_complete (no a) (yes (i, h, y)) q x =
        step_done N k f i (length M) (ap (λ (z : Node K). z.feature) (at_ext x i h ∙ y)) old
        ∙ ap (λ (l : List (Node K)). let o : Option ℕ = some (length l) in o) same
      where
        -- the node was there before: what was appended has a higher feature
        old : i < length M
        old = go (dec_lt i (length M))
          where
            go : Dec (i < length M) → i < length M
            go (yes l) = l
            go (no l) = let p : suc k ≤ (at N1 i).feature = newer i (omega arith) h in let r : (at N1 i).feature ≡ k = ap (λ (z : Node K). z.feature) y in absurd (omega arith)

        mean : Mean M k (n ∷ ns) (record { adds = base bs; to = node i }) g
        mean = mean_prefix S M grow.more k (n ∷ ns) (record { adds = base bs; to = node i }) g (subst (WellFormed S) grow.ends w1)
            (old, (let r : (at M i).feature ≡ k = ap (λ (z : Node K). z.feature) (sym (at_ext grow i old) ∙ y) in omega arith))
            (subst (λ (l : List (Node K)). Mean l k (n ∷ ns) (record { adds = base bs; to = node i }) g) grow.ends (node_mean N1 k n ns g bs size i h y m))

        same : M ≡ N1
        same = ap (λ (r : Built K). r.1) (sym (canonical S k (n ∷ ns) rest pos M w (record { adds = base bs; to = node i }) g mean) ∙ q)
    decide_complete (no a) (no e) q x =
        step_close N k f (length N1) (length M) (ap (λ (y : Node K). y.feature) here) (let l = ext_le grow in omega arith)
        ∙ ap (λ (y : Node K). close (length N1) (scans f y.branches (length M))) here
        ∙ ap (close (length N1)) (scans_map f (less (base bs)) (λ b. refl) bs (length M))
        ∙ ap (close (length N1)) (met (ext_trans (record { more = node_of k bs ∷ []; ends = refl }) x))
        ∙ close_same (length N1) (length N1) refl
        ∙ ap (λ (j : ℕ). let o : Option ℕ = some j in o) (sym (length_snoc N1 (node_of k bs)))
      where
        here : at N (length N1) ≡ node_of k bs
        here = at_ext x (length N1) (omega (arith, length_snoc N1 (node_of k bs))) ∙ get_or-append_seam N1 (node_of k bs) [] empty

    make_complete : build k (n ∷ ns) g M ≡ make k bs N1 → Ext (make k bs N1).1 N → step N k f (make k bs N1).0.to (length M) ≡ some (length (make k bs N1).1)
    unfolding make
    make_complete = decide_complete (alike_decided branch_discrete blank bs) (find node_discrete empty (node_of k bs) N1)

  -- a function that does not depend on its first feature
  scan_skipped : (S : List ℕ) (k n : ℕ) (ns : List ℕ) → drop k S ≡ n ∷ ns → (g : Fun K) (M : List (Node K)) → WellFormed S M → (N : List (Node K)) (f : Target K → ℕ → Option ℕ) → (r : Built K) →
      Right S (suc k) ns (held 0 g) M r → Ext r.1 N → f r.0.to (length M) ≡ some (length r.1) → step N k f r.0.to (length M) ≡ some (length r.1)
  scan_skipped S k n ns rest g M w N f r a x h = step_wait N k f r.0.to (length M) (mean_more S a.wf x a.mean).ok ∙ h

  pub scan_complete : (S : List ℕ) (k : ℕ) (ns : List ℕ) → drop k S ≡ ns → Pos ns → (N : List (Node K)) (g : Fun K) (M : List (Node K)) → WellFormed S M → Ext (build k ns g M).1 N →
      scan N k ns (build k ns g M).0.to (length M) ≡ some (length (build k ns g M).1)
  scan_complete S k [] rest pos N g M w x = rw (scan_nil, build_nil)
  scan_complete S k (n ∷ ns) rest pos N g M w x =
      scan_cons N k n ns (build k (n ∷ ns) g M).0.to (length M) ∙ go (free_decided n ns g) (scan_complete S (suc k) ns d pos.1 N)
    where
      d : drop (suc k) S ≡ ns
      d = (drop_head S k n ns rest).2

      F : Target K → ℕ → Option ℕ
      F = scan N (suc k) ns

      go : Dec (Free n ns g) → ((h : Fun K) (L : List (Node K)) → WellFormed S L → Ext (build (suc k) ns h L).1 N → F (build (suc k) ns h L).0.to (length L) ≡ some (length (build (suc k) ns h L).1)) →
          step N k F (build k (n ∷ ns) g M).0.to (length M) ≡ some (length (build k (n ∷ ns) g M).1)
      go (yes free) ih =
          let e : build k (n ∷ ns) g M ≡ build (suc k) ns (held 0 g) M = build_skips S k n ns rest pos M w g free in
          let y : Ext (build (suc k) ns (held 0 g) M).1 N = subst (λ (r : Built K). Ext r.1 N) e x in
          subst (λ (r : Built K). step N k F r.0.to (length M) ≡ some (length r.1)) (sym e)
          (scan_skipped S k n ns rest g M w N F (build (suc k) ns (held 0 g) M) (build_right S (suc k) ns d (held 0 g) M w) y (ih (held 0 g) M w y))
      go (no bound) ih =
          let q : List (Branch K) × List (Node K) = below k n ns g M in
          let t : Rights S (suc k) ns (parts 0 n g) M q = each_right S (suc k) ns (build (suc k) ns) (build_right S (suc k) ns d) (parts 0 n g) M w in
          let e : build k (n ∷ ns) g M ≡ make k q.0 q.1 = build_cons k n ns g M in
          subst (λ (r : Built K). step N k F r.0.to (length M) ≡ some (length r.1)) (sym e)
          (make_complete S k n ns rest pos g M w N F q.0 q.1 t.grow t.wfs
          (each_newer (suc k) (build (suc k) ns) (build_grows (suc k) ns) (build_newer (suc k) ns) (parts 0 n g) M)
          (means_length q.1 (suc k) ns q.0 0 n g t.means)
          (λ v h. rw zero-add at (means_at q.1 (suc k) ns q.0 0 n g t.means v h))
          bound
          (each_complete S (suc k) ns d N F ih (parts 0 n g) M w)
          e (subst (λ (r : Built K). Ext r.1 N) e x))

  means_self : (S : List ℕ) (N : List (Node K)) (bs : List (Branch K)) → AllOk N bs → Means N 0 S bs (map (meaning N) bs)
  means_self S N [] o = tt
  means_self S N (b ∷ bs) o = (record { ok = o.0; says = λ s x. refl }, means_self S N bs o.1)

  means_all_ok : (N : List (Node K)) (ns : List ℕ) (bs : List (Branch K)) (gs : List (Fun K)) → Means N 0 ns bs gs → AllOk N bs
  means_all_ok N ns [] gs m = tt
  means_all_ok N ns (b ∷ bs) [] m = absurd m
  means_all_ok N ns (b ∷ bs) (g ∷ gs) m = (m.0.ok, means_all_ok N ns bs gs m.1)

  -- tidy roots and nodes are the table of what the roots mean
  pub tidy_is_table : (S : List ℕ) → Pos S → (roots : List (Branch K)) (N : List (Node K)) → Tidy S roots N → table S (map (meaning N) roots) ≡ (roots, N)
  tidy_is_table S pos roots N s =
      let p : Told (AllWalked N 0 S roots (map (meaning N) roots) 0) (scans (scan N 0 S) roots 0) =
      scans_sound S 0 S N (scan N 0 S) (scan_sound S 0 S refl pos N s.well) roots (map (meaning N) roots) (means_self S N roots s.roots_ok) 0 (omega arith) in
      let q : AllWalked N 0 S roots (map (meaning N) roots) 0 (length N) = subst (Told (AllWalked N 0 S roots (map (meaning N) roots) 0)) s.in_order p in
      q.builts ∙ ap (λ (l : List (Node K)). let t : List (Branch K) × List (Node K) = (roots, l) in t) (take-length N)

  -- and every table is tidy
  pub table_is_tidy : (S : List ℕ) → Pos S → (gs : List (Fun K)) → Tidy S (table S gs).0 (table S gs).1
  table_is_tidy S pos gs =
      let r : Rights S 0 S gs [] (table S gs) = builds_right S gs [] (wf_empty S) in
      record {
        well = r.wfs;
        roots_ok = means_all_ok (table S gs).1 S (table S gs).0 gs r.means;
        in_order = each_complete S 0 S refl (table S gs).1 (scan (table S gs).1 0 S) (scan_complete S 0 S refl pos (table S gs).1) gs [] (wf_empty S) (ext_refl (table S gs).1);
      }
