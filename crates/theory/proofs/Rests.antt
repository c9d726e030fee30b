-- The nodes of functions built in turn are their distinct rests, in the order in which they are met. Assumes nothing.
use mathlib.Core.Path.{◌≡◌, refl, sym, ap, ◌∙◌, subst}
use mathlib.Core.List.{List, [], ◌∷◌, ◌++◌, map}
use Prim.Native.Nat.{ℕ, suc, ◌<◌}
use native.Mathlib.Nat.{not-suc-le-zero, zero-add, le_refl}
use native.Mathlib.Decide.{dec_lt}
use native.Mathlib.Omega.{arith}
use lib.ListN.{length, get_or, drop, length-append, length-map, get_or-append}
use lib.Seq.{get_or-append_seam, ext_get_or}
use Rattle.theory.specs.Kind.{Kind}
use Rattle.theory.specs.Deciding.{Alike, In, alike_decided, find}
use Rattle.theory.specs.Settings.{Pos, Valid, zeros}
use Rattle.theory.specs.Functions.{Amount, Fun, held, lift, parts}
use Rattle.theory.specs.Diagrams.{Branch, Node, at, base, blank, empty, node, node_of, plain, up, value}
use Rattle.theory.specs.Comparing.{branch_discrete, node_discrete}
use Rattle.theory.specs.Rests.{Equal, Free, Rest, Seen, no_rest, norm}
use Rattle.theory.specs.Tally.{add, flat, free_decided, gather, own, rests, seen_decided, tally}
use Rattle.theory.specs.WellFormed.{Mean, WellFormed}
use Rattle.theory.specs.Build.{Built, Ext, below, build, decide, each, make}
use Rattle.theory.proofs.Lists.{drop_head, get_or_map_in}
use Rattle.theory.proofs.Ranges.{zeros_valid}
use Rattle.theory.proofs.Offsets.{lift_redo, lift_undo, node_of_up}
use Rattle.theory.proofs.Growing.{build_cons, build_nil}
use Rattle.theory.proofs.WellFormed.{at_more, length_snoc, wf_empty}
use Rattle.theory.proofs.Values.{mean_here, mean_more, means_at, means_length, node_mean, value_more, value_plain, value_zeros}
use Rattle.theory.proofs.Meaning.{Right, Rights, build_right, decide_right, each_right}
use Rattle.theory.proofs.Canonical.{canonical_unique}

module _ {K : Kind} where
  pub rests_nil : (k : ℕ) (g : Fun K) → rests k [] g ≡ []
  unfolding rests
  rests_nil k g = refl

  pub rests_cons : (k n : ℕ) (ns : List ℕ) (g : Fun K) → rests k (n ∷ ns) g ≡ flat (rests (suc k) ns) (parts 0 n g) ++ own k n ns g (free_decided n ns g)
  unfolding rests
  rests_cons k n ns g = refl

  pub gather_append : (S : List ℕ) (l xs ys : List (Rest K)) → gather S l (xs ++ ys) ≡ gather S (gather S l xs) ys
  unfolding gather
  gather_append S l [] ys = refl
  gather_append S l (x ∷ xs) ys = gather_append S (add S l x (seen_decided S x l)) xs ys

  gather_nil : (S : List ℕ) (l : List (Rest K)) → gather S l [] ≡ l
  unfolding gather
  gather_nil S l = refl

  add_old : (S : List ℕ) (l : List (Rest K)) (x : Rest K) (d : Dec (Seen S x l)) → Seen S x l → add S l x d ≡ l
  unfolding add
  add_old S l x (yes w) h = refl
  add_old S l x (no w) h = absurd (w h)

  add_new : (S : List ℕ) (l : List (Rest K)) (x : Rest K) (d : Dec (Seen S x l)) → ¬ Seen S x l → add S l x d ≡ l ++ (x ∷ [])
  unfolding add
  add_new S l x (yes w) h = absurd (h w)
  add_new S l x (no w) h = refl

  gather_old : (S : List ℕ) (l : List (Rest K)) (x : Rest K) → Seen S x l → gather S l (x ∷ []) ≡ l
  unfolding gather
  gather_old S l x h = add_old S l x (seen_decided S x l) h

  gather_new : (S : List ℕ) (l : List (Rest K)) (x : Rest K) → ¬ Seen S x l → gather S l (x ∷ []) ≡ l ++ (x ∷ [])
  unfolding gather
  gather_new S l x h = add_new S l x (seen_decided S x l) h

  abbrev pub rest_of : List (Node K) → ℕ → Rest K
  rest_of N i = record { level = (at N i).feature; function = value N (at N i).feature (plain i) }

  -- the list l of rests is that of the nodes, in order
  pub record Sim (S : List ℕ) (N : List (Node K)) (l : List (Rest K)) : Type 0 where
    pub long : length l ≡ length N
    pub keys : (i : ℕ) → i < length N → Equal S (get_or l i no_rest) (rest_of N i)

  pub equal_sym : {S : List ℕ} {x y : Rest K} → Equal S x y → Equal S y x
  equal_sym {S} {x} {y} e = record { levels = sym e.levels; functions = λ s h. sym (e.functions s (rw e.levels h)) }

  pub equal_trans : {S : List ℕ} {x y z : Rest K} → Equal S x y → Equal S y z → Equal S x z
  equal_trans {S} {x} {y} {z} e f = record { levels = e.levels ∙ f.levels; functions = λ s h. e.functions s h ∙ f.functions s (rw e.levels at h) }

  -- the node i means g at k, with some offset, exactly if its rest is g's
  equal_of_mean : (S : List ℕ) (N : List (Node K)) → WellFormed S N → (k : ℕ) (ns : List ℕ) (g : Fun K) (a : K.Off) (i : ℕ) → drop k S ≡ ns → Pos ns → (at N i).feature ≡ k
      → Mean N k ns (record { adds = a; to = node i }) g →
      Equal S (rest_of N i) (record { level = k; function = norm ns g })
  equal_of_mean S N w k ns g a i rest pos e m =
      record {
        levels = e;
        functions = λ s h.
            ap (λ (j : ℕ). value N j (plain i) s) e
            ∙ sym (lift_undo a (value N k (plain i) s))
            ∙ ap (lift (K.neg a)) (sym (value_plain N k i a s) ∙ m.says s (subst (λ (r : List ℕ). Valid r s) (ap (λ (j : ℕ). drop j S) e ∙ rest) h))
            ∙ ap (λ (c : K.Off). lift (K.neg c) (g s)) adds;
      }
    where
      adds : a ≡ (g (zeros ns)).off
      adds = sym (value_zeros S N w k ns (record { adds = a; to = node i }) m.ok) ∙ ap (λ (x : Amount K). x.off) (m.says (zeros ns) (zeros_valid ns pos))

  mean_of_equal : (S : List ℕ) (N : List (Node K)) (k : ℕ) (ns : List ℕ) (g : Fun K) (i : ℕ) → drop k S ≡ ns → i < length N → Equal S (rest_of N i) (record { level = k; function = norm ns g }) →
      Mean N k ns (record { adds = (g (zeros ns)).off; to = node i }) g
  mean_of_equal S N k ns g i rest h e =
      let f : (at N i).feature ≡ k = e.levels in
      let a : K.Off = (g (zeros ns)).off in
      record {
        ok = (h, omega arith);
        says = λ s x.
            value_plain N k i a s
            ∙ ap (lift a) (ap (λ (j : ℕ). value N j (plain i) s) (sym f) ∙ e.functions s (subst (λ (r : List ℕ). Valid r s) (sym (ap (λ (j : ℕ). drop j S) f ∙ rest)) x))
            ∙ lift_redo a (g s);
      }

  rest_more : (S : List ℕ) (N M : List (Node K)) → WellFormed S N → (i : ℕ) → i < length N → Equal S (rest_of N i) (rest_of (N ++ M) i)
  rest_more S N M w i h =
      record {
        levels = ap (λ (x : Node K). x.feature) (sym (at_more N M i h));
        functions = λ s x. sym (value_more S N M w (at N i).feature (plain i) s (h, le_refl _))
            ∙ ap (λ (y : Node K). value (N ++ M) y.feature (plain i) s) (sym (at_more N M i h));
      }

  sim_snoc : (S : List ℕ) (N : List (Node K)) (l : List (Rest K)) (x : Node K) (y : Rest K) → WellFormed S N → Sim S N l → Equal S y (rest_of (N ++ (x ∷ [])) (length N))
      → Sim S (N ++ (x ∷ [])) (l ++ (y ∷ []))
  sim_snoc S N l x y w m e =
      record {
        long = omega (arith, length-append l (y ∷ []), length-append N (x ∷ []), m.long);
        keys = λ i h. go i h (dec_lt i (length N));
      }
    where
      go : (i : ℕ) → i < length (N ++ (x ∷ [])) → Dec (i < length N) → Equal S (get_or (l ++ (y ∷ [])) i no_rest) (rest_of (N ++ (x ∷ [])) i)
      go i h (yes p) = rw (get_or-append l (y ∷ []) no_rest i (omega (arith, m.long))) (equal_trans (m.keys i p) (rest_more S N (x ∷ []) w i p))
      go i h (no p) =
          let q : i ≡ length N = omega (arith, length_snoc N x) in
          rw q (rw (subst (λ (j : ℕ). get_or (l ++ (y ∷ [])) j no_rest ≡ y) m.long (get_or-append_seam l y [] no_rest)) e)

  module _ (S : List ℕ) (k n : ℕ) (ns : List ℕ) (rest : drop k S ≡ n ∷ ns) (pos : Pos (n ∷ ns)) (g : Fun K) (bs : List (Branch K)) (N : List (Node K)) (w : WellFormed S N)
      (size : length bs ≡ n) (m : (v : ℕ) → v < n → Mean N (suc k) ns (get_or bs v blank) (held v g)) (l : List (Rest K)) (sim : Sim S N l) where
    free_of_alike : Alike blank bs → Free n ns g
    unfolding Free
    free_of_alike a v h s x =
        sym ((m v h).says s x) ∙ ap (λ (b : Branch K). value N (suc k) b s) (a v (omega arith)) ∙ (m 0 pos.0).says s x

    alike_of_free : Free n ns g → Alike blank bs
    unfolding Free
    alike_of_free f v h =
        let hv : v < n = omega arith in
        canonical_unique S (suc k) ns (drop_head S k n ns rest).2 pos.1 N w (get_or bs v blank) (get_or bs 0 blank) (held 0 g)
        (record { ok = (m v hv).ok; says = λ s x. (m v hv).says s x ∙ f v hv s x })
        (m 0 pos.0)

    -- a node of feature k whose rest is g's is the node of bs
    same_node : (i : ℕ) → i < length N → Equal S (rest_of N i) (record { level = k; function = norm (n ∷ ns) g }) → at N i ≡ node_of k bs
    same_node i h e =
        let a : K.Off = (g (zeros (n ∷ ns))).off in
        let cs : List (Branch K) = (at N i).branches in
        let p : Mean N k (n ∷ ns) (record { adds = a; to = node i }) g = mean_of_equal S N k (n ∷ ns) g i rest h e in
        let f : length cs ≡ n = (w.fits i h).full ∙ ap (λ (j : ℕ). get_or S j 0) e.levels ∙ (drop_head S k n ns rest).1 in
        let q : map (up a) cs ≡ bs = ext_get_or blank (map (up a) cs) bs (length-map cs (up a) ∙ f ∙ sym size)
        (λ v hv. let hc : v < length cs = omega (arith, length-map cs (up a)) in
        get_or_map_in (up a) blank blank cs v hc
        ∙ canonical_unique S (suc k) ns (drop_head S k n ns rest).2 pos.1 N w (up a (get_or cs v blank)) (get_or bs v blank) (held v g)
        (mean_here S w p e.levels v (omega arith)) (m v (omega arith))) in
        (λ j. record { feature = e.levels j; branches = cs }) ∙ node_of_up cs a (w.fits i h).zeroed (let z = pos.0 in omega arith) k ∙ ap (node_of k) q

    decide_sim : (d : Dec (Alike blank bs)) (f : Dec (In empty (node_of k bs) N)) (t : Dec (Free n ns g)) →
        Sim S (decide k bs N d f).1 (gather S l (own k n ns g t))
    unfolding decide own
    decide_sim (yes a) f (yes t) = rw gather_nil sim
    decide_sim (yes a) f (no t) = absurd (t (free_of_alike a))
    decide_sim (no a) f (yes t) = absurd (a (alike_of_free t))
    decide_sim (no a) (yes f) (no t) =
        let e : Equal S (rest_of N f.0) (record { level = k; function = norm (n ∷ ns) g }) =
        equal_of_mean S N w k (n ∷ ns) g (base bs) f.0 rest pos (ap (λ (x : Node K). x.feature) f.2) (node_mean N k n ns g bs size f.0 f.1 f.2 m) in
        rw (gather_old S l (record { level = k; function = norm (n ∷ ns) g }) (f.0, omega (arith, f.1, sim.long), equal_trans (sim.keys f.0 f.1) e)) sim
    decide_sim (no a) (no f) (no t) =
        rw (gather_new S l y fresh) (sim_snoc S N l x y w sim (equal_sym new))
      where
        x : Node K
        x = node_of k bs

        y : Rest K
        y = record { level = k; function = norm (n ∷ ns) g }

        fresh : ¬ Seen S y l
        fresh (i, h, e) = f (i, omega (arith, sim.long), same_node i (omega (arith, sim.long)) (equal_trans (equal_sym (sim.keys i (omega (arith, sim.long)))) e))

        ext : Ext N (N ++ (x ∷ []))
        ext = record { more = x ∷ []; ends = refl }

        last : at (N ++ (x ∷ [])) (length N) ≡ x
        last = get_or-append_seam N x [] empty

        right : Right S k (n ∷ ns) g N (decide k bs N (no a) (no f))
        right = decide_right S k n ns rest g bs N w size m (no a) (no f)

        new : Equal S (rest_of (N ++ (x ∷ [])) (length N)) y
        new = equal_of_mean S (N ++ (x ∷ [])) right.wf k (n ∷ ns) g (base bs) (length N) rest pos (ap (λ (z : Node K). z.feature) last)
            (node_mean (N ++ (x ∷ [])) k n ns g bs size (length N) (omega (arith, length_snoc N x)) last (λ v h. mean_more S w ext (m v h)))

    make_sim : Sim S (make k bs N).1 (gather S l (own k n ns g (free_decided n ns g)))
    unfolding make
    make_sim = decide_sim (alike_decided branch_discrete blank bs) (find node_discrete empty (node_of k bs) N) (free_decided n ns g)

  each_sim : (S : List ℕ) (k : ℕ) (ns : List ℕ) (f : Fun K → List (Node K) → Built K) (rs : Fun K → List (Rest K)) →
      ((g : Fun K) (N : List (Node K)) → WellFormed S N → Right S k ns g N (f g N)) →
      ((g : Fun K) (N : List (Node K)) (l : List (Rest K)) → WellFormed S N → Sim S N l → Sim S (f g N).1 (gather S l (rs g))) →
      (gs : List (Fun K)) (N : List (Node K)) (l : List (Rest K)) → WellFormed S N → Sim S N l → Sim S (each f gs N).1 (gather S l (flat rs gs))
  each_sim S k ns f rs r h [] N l w m = rw gather_nil m
  each_sim S k ns f rs r h (g ∷ gs) N l w m =
      rw gather_append (each_sim S k ns f rs r h gs (f g N).1 (gather S l (rs g)) (r g N w).wf (h g N l w m))

  pub build_sim : (S : List ℕ) (k : ℕ) (ns : List ℕ) → drop k S ≡ ns → Pos ns → (g : Fun K) (N : List (Node K)) (l : List (Rest K)) → WellFormed S N → Sim S N l →
      Sim S (build k ns g N).1 (gather S l (rests k ns g))
  build_sim S k [] rest pos g N l w m = rw (build_nil, rests_nil, gather_nil) m
  build_sim S k (n ∷ ns) rest pos g N l w m =
      let q : List (Branch K) × List (Node K) = below k n ns g N in
      let d : drop (suc k) S ≡ ns = (drop_head S k n ns rest).2 in
      let t : Rights S (suc k) ns (parts 0 n g) N q = each_right S (suc k) ns (build (suc k) ns) (build_right S (suc k) ns d) (parts 0 n g) N w in
      let u : Sim S q.1 (gather S l (flat (rests (suc k) ns) (parts 0 n g))) =
      each_sim S (suc k) ns (build (suc k) ns) (rests (suc k) ns) (build_right S (suc k) ns d) (build_sim S (suc k) ns d pos.1) (parts 0 n g) N l w m in
      rw (build_cons, rests_cons, gather_append)
      (make_sim S k n ns rest pos g q.0 q.1 t.wfs (means_length q.1 (suc k) ns q.0 0 n g t.means)
      (λ v h. rw zero-add at (means_at q.1 (suc k) ns q.0 0 n g t.means v h))
      (gather S l (flat (rests (suc k) ns) (parts 0 n g))) u)

  -- the functions built in turn from nothing have one node for each distinct rest, in the order in which the rests are met
  pub builds_sim : (S : List ℕ) → Pos S → (gs : List (Fun K)) → Sim S (each (build 0 S) gs []).1 (gather S [] (flat (rests 0 S) gs))
  builds_sim S pos gs =
      each_sim S 0 S (build 0 S) (rests 0 S) (build_right S 0 S refl) (build_sim S 0 S refl pos) gs [] [] (wf_empty S)
      (record { long = refl; keys = λ i h. absurd (not-suc-le-zero h) })

  -- so there are as many nodes as distinct rests
  pub nodes_tally : (S : List ℕ) → Pos S → (gs : List (Fun K)) → length (each (build 0 S) gs []).1 ≡ tally S gs
  unfolding tally
  nodes_tally S pos gs = sym (builds_sim S pos gs).long
