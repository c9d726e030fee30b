-- Functions that agree build the same; a branch that means a function is what `build` gives, with no new node; a feature that does not count is skipped. Assumes nothing.
use mathlib.Core.Path.{◌≡◌, refl, sym, ap, ◌∙◌, subst}
use mathlib.Core.Logic.{◌⊎◌, inl, inr}
use mathlib.Core.List.{List, [], ◌∷◌, map}
use Prim.Native.Nat.{ℕ, zero, suc, ◌+◌, ◌<◌}
use native.Mathlib.Nat.{not-suc-le-zero, zero-add, add-zero}
use native.Mathlib.Decide.{ℕ_discrete}
use native.Mathlib.Omega.{arith}
use lib.ListN.{length, get_or, drop, replicate, length-replicate, get_or-replicate, length-drop, length-map}
use Rattle.theory.specs.Kind.{Kind}
use Rattle.theory.specs.Settings.{Pos}
use Rattle.theory.specs.Functions.{Agree, Amount, Fun, held, parts}
use Rattle.theory.specs.Diagrams.{Branch, Node, Target, at, blank, ended, leaf, node, up}
use Rattle.theory.specs.Rests.{Free}
use Rattle.theory.specs.WellFormed.{Fits, Mean, Ok, Under, WellFormed}
use Rattle.theory.specs.Build.{Built, build, each, make}
use Rattle.theory.proofs.Lists.{drop_head, get_or_map_in}
use Rattle.theory.proofs.Offsets.{base_up, node_of_up, up_alike}
use Rattle.theory.proofs.Growing.{build_cons, build_nil}
use Rattle.theory.proofs.Values.{mean_here, mean_wait, value_end}
use Rattle.theory.proofs.Meaning.{Right, build_right}
use Rattle.theory.proofs.Making.{make_alike, make_there}

module _ {K : Kind} where
  abbrev pub onto : (Fun K → List (Node K) → Built K) → List (Fun K) → Built K → List (Branch K) × List (Node K)
  onto f gs r = (r.0 ∷ (each f gs r.1).0, (each f gs r.1).1)

  each_agree : (f : Fun K → List (Node K) → Built K) (g h : Fun K) (u n : ℕ) → ((v : ℕ) → v < u + n → (M : List (Node K)) → f (held v g) M ≡ f (held v h) M) →
      (N : List (Node K)) → each f (parts u n g) N ≡ each f (parts u n h) N
  each_agree f g h u zero a N = refl
  each_agree f g h u (suc n) a N =
      ap (onto f (parts (suc u) n g)) (a u (omega arith) N)
      ∙ ap (λ (q : List (Branch K) × List (Node K)). let r = f (held u h) N in let t : List (Branch K) × List (Node K) = (r.0 ∷ q.0, q.1) in t)
      (each_agree f g h (suc u) n (λ v l. a v (omega arith)) (f (held u h) N).1)

  -- EXTENSIONAL: functions that agree at every valid setting build the same
  pub build_agree : (k : ℕ) (ns : List ℕ) (g h : Fun K) → Agree ns g h → (N : List (Node K)) → build k ns g N ≡ build k ns h N
  build_agree k [] g h a N = build_nil k g N ∙ ap (λ (p : Amount K). let t : Built K = (record { adds = p.off; to = leaf p.end }, N) in t) (a [] tt) ∙ sym (build_nil k h N)
  build_agree k (n ∷ ns) g h a N =
      build_cons k n ns g N
      ∙ ap (λ (q : List (Branch K) × List (Node K)). make k q.0 q.1)
      (each_agree (build (suc k) ns) g h 0 n (λ v l. build_agree (suc k) ns (held v g) (held v h) (λ s x. a (v ∷ s) (omega (arith, zero-add n), x))) N)
      ∙ sym (build_cons k n ns h N)

  pub each_stays : (f : Fun K → List (Node K) → Built K) (g : Fun K) (N : List (Node K)) (bs : List (Branch K)) (u n : ℕ) → length bs ≡ n →
      ((v : ℕ) → v < n → f (held (u + v) g) N ≡ (get_or bs v blank, N)) → each f (parts u n g) N ≡ (bs, N)
  each_stays f g N [] u zero l a = refl
  each_stays f g N [] u (suc n) l a = absurd (let z : 0 ≡ suc n = l in omega arith)
  each_stays f g N (b ∷ bs) u zero l a = absurd (omega arith)
  each_stays f g N (b ∷ bs) u (suc n) l a =
      ap (onto f (parts (suc u) n g)) (ap (λ (w : ℕ). f (held w g) N) (sym (add-zero u)) ∙ a 0 (omega arith))
      ∙ ap (λ (q : List (Branch K) × List (Node K)). let t : List (Branch K) × List (Node K) = (b ∷ q.0, q.1) in t)
      (each_stays f g N bs (suc u) n (omega arith)
      (λ v h. ap (λ (w : ℕ). f (held w g) N) (let e : suc u + v ≡ u + suc v = omega arith in e) ∙ a (suc v) (omega arith)))

  -- a target at k is one at k + 1, or a node of feature k
  ok_split : (N : List (Node K)) (k : ℕ) (t : Target K) → Under N (length N) k t → Under N (length N) (suc k) t ⊎ ((i : ℕ) × (t ≡ node i) × (i < length N) × ((at N i).feature ≡ k))
  ok_split N k (leaf p) o = inl tt
  ok_split N k (node i) o = go (ℕ_discrete (at N i).feature k)
    where
      go : Dec ((at N i).feature ≡ k) → Under N (length N) (suc k) (node i) ⊎ ((j : ℕ) × (◌≡◌ {A = Target K} (node i) (node j)) × (j < length N) × ((at N j).feature ≡ k))
      go (yes p) = inr (i, refl, o.0, p)
      go (no p) = inl (o.0, omega arith)

  module _ (S : List ℕ) (k n : ℕ) (ns : List ℕ) (rest : drop k S ≡ n ∷ ns) (pos : 0 < n) (N : List (Node K)) (w : WellFormed S N) (g : Fun K)
      (ih : (c : Branch K) (v : ℕ) → Mean N (suc k) ns c (held v g) → build (suc k) ns (held v g) N ≡ (c, N)) where
    stays : (bs : List (Branch K)) → length bs ≡ n → ((v : ℕ) → v < n → Mean N (suc k) ns (get_or bs v blank) (held v g)) → build k (n ∷ ns) g N ≡ make k bs N
    stays bs l m =
        build_cons k n ns g N
        ∙ ap (λ (q : List (Branch K) × List (Node K)). make k q.0 q.1)
        (each_stays (build (suc k) ns) g N bs 0 n l
        (λ v h. ap (λ (u : ℕ). build (suc k) ns (held u g) N) (zero-add v) ∙ ih (get_or bs v blank) v (m v h)))

    canon_wait : (b : Branch K) → Mean N k (n ∷ ns) b g → Ok N (suc k) b → build k (n ∷ ns) g N ≡ (b, N)
    canon_wait b m o =
        stays (replicate n b) (length-replicate n b) (λ v h. rw (get_or-replicate n v b blank h) (mean_wait m o v h))
        ∙ make_alike k (replicate n b) N b (λ v h. get_or-replicate n v b blank (omega (arith, length-replicate n b))) (omega (arith, length-replicate n b))

    canon_here : (a : K.Off) (i : ℕ) → Mean N k (n ∷ ns) (record { adds = a; to = node i }) g → (at N i).feature ≡ k → build k (n ∷ ns) g N ≡ (record { adds = a; to = node i }, N)
    canon_here a i m e =
        let f : Fits S N i (at N i) = w.fits i m.ok.0 in
        let bs : List (Branch K) = (at N i).branches in
        let l : length bs ≡ n = f.full ∙ ap (λ (j : ℕ). get_or S j 0) e ∙ (drop_head S k n ns rest).1 in
        let p : 0 < length bs = omega arith in
        stays (map (up a) bs) (length-map bs (up a) ∙ l)
        (λ v h. subst (λ (b : Branch K). Mean N (suc k) ns b (held v g)) (sym (get_or_map_in (up a) blank blank bs v (omega arith))) (mean_here S w m e v h))
        ∙ make_there S k (map (up a) bs) N w i m.ok.0
        ((λ j. record { feature = e j; branches = bs }) ∙ node_of_up bs a f.zeroed p k)
        (λ q. f.differ (up_alike bs a f.zeroed p q))
        ∙ ap (λ (c : K.Off). let t : Built K = (record { adds = c; to = node i }, N) in t) (base_up bs a f.zeroed p)

    canon_step : (b : Branch K) → Mean N k (n ∷ ns) b g → build k (n ∷ ns) g N ≡ (b, N)
    canon_step b m = go (ok_split N k b.to m.ok)
      where
        go : Under N (length N) (suc k) b.to ⊎ ((i : ℕ) × (b.to ≡ node i) × (i < length N) × ((at N i).feature ≡ k)) → build k (n ∷ ns) g N ≡ (b, N)
        go (inl o) = canon_wait b m o
        go (inr (i, e, l, f)) =
            let q : b ≡ record { adds = b.adds; to = node i } = λ j. record { adds = b.adds; to = e j } in
            canon_here b.adds i (subst (λ (c : Branch K). Mean N k (n ∷ ns) c g) q m) f ∙ ap (λ (c : Branch K). let t : Built K = (c, N) in t) (sym q)

  canon_end : (S : List ℕ) (k : ℕ) → drop k S ≡ [] → (N : List (Node K)) → WellFormed S N → (a : K.Off) (t : Target K) (g : Fun K) → Mean N k [] (record { adds = a; to = t }) g →
      build k [] g N ≡ (record { adds = a; to = t }, N)
  unfolding ended
  canon_end S k rest N w a (leaf p) g m =
      build_nil k g N ∙ ap (λ (q : Amount K). let t : Built K = (record { adds = q.off; to = leaf q.end }, N) in t) (sym (m.says [] tt) ∙ value_end N k (record { adds = a; to = leaf p }))
  canon_end S k rest N w a (node i) g m =
      absurd (let f : (at N i).feature < length S = (w.fits i m.ok.0).known in
      let l : length (drop k S) ≡ 0 = ap length rest in omega (arith, length-drop k S, m.ok.1))

  -- CANONICAL: a branch that means g is what `build` of g gives, and no node is added
  pub canonical : (S : List ℕ) (k : ℕ) (ns : List ℕ) → drop k S ≡ ns → Pos ns → (N : List (Node K)) → WellFormed S N → (b : Branch K) (g : Fun K) → Mean N k ns b g → build k ns g N ≡ (b, N)
  canonical S k [] rest pos N w b g m = canon_end S k rest N w b.adds b.to g m
  canonical S k (n ∷ ns) rest pos N w b g m =
      canon_step S k n ns rest pos.0 N w g (λ c v. canonical S (suc k) ns (drop_head S k n ns rest).2 pos.1 N w c (held v g)) b m

  -- so equal meanings are equal branches
  pub canonical_unique : (S : List ℕ) (k : ℕ) (ns : List ℕ) → drop k S ≡ ns → Pos ns → (N : List (Node K)) → WellFormed S N → (b c : Branch K) (g : Fun K) → Mean N k ns b g → Mean N k ns c g → b ≡ c
  canonical_unique S k ns rest pos N w b c g p q =
      ap (λ (r : Built K). r.0) (sym (canonical S k ns rest pos N w b g p) ∙ canonical S k ns rest pos N w c g q)

  -- SKIPPING: a function that does not depend on its first feature is built at the next
  pub build_skips : (S : List ℕ) (k n : ℕ) (ns : List ℕ) → drop k S ≡ n ∷ ns → Pos (n ∷ ns) → (N : List (Node K)) → WellFormed S N → (g : Fun K) → Free n ns g →
      build k (n ∷ ns) g N ≡ build (suc k) ns (held 0 g) N
  unfolding Free
  build_skips S k zero ns rest pos N w g free = absurd (not-suc-le-zero pos.0)
  build_skips S k (suc n) ns rest pos N w g free =
      let r : Built K = build (suc k) ns (held 0 g) N in
      let a : Right S (suc k) ns (held 0 g) N r = build_right S (suc k) ns (drop_head S k (suc n) ns rest).2 (held 0 g) N w in
      let q : each (build (suc k) ns) (parts 1 n g) r.1 ≡ (replicate n r.0, r.1) =
      each_stays (build (suc k) ns) g r.1 (replicate n r.0) 1 n (length-replicate n r.0)
      (λ v h. canonical S (suc k) ns (drop_head S k (suc n) ns rest).2 pos.1 r.1 a.wf r.0 (held (1 + v) g)
      (record { ok = a.mean.ok; says = λ s x. a.mean.says s x ∙ sym (free (1 + v) (omega arith) s x) })
      ∙ ap (λ (b : Branch K). let t : Built K = (b, r.1) in t) (sym (get_or-replicate n v r.0 blank h))) in
      build_cons k (suc n) ns g N
      ∙ ap (λ (q : List (Branch K) × List (Node K)). make k (r.0 ∷ q.0) q.1) q
      ∙ make_alike k (replicate (suc n) r.0) r.1 r.0 (λ v h. get_or-replicate (suc n) v r.0 blank (omega (arith, length-replicate n r.0))) (omega arith)
