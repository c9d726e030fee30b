-- A cost of spread D builds nodes below which the spread is D: so the nodes of a table whose costs lie within ±B have spread 2B. Assumes nothing.
use mathlib.Core.Path.{◌≡◌, refl, sym, ap, ◌∙◌, subst}
use mathlib.Core.Logic.{◌⊎◌, inl, inr}
use mathlib.Core.List.{List, [], ◌∷◌, ◌++◌}
use Prim.Native.Nat.{ℕ, zero, suc, ◌+◌, ◌≤◌, ◌<◌}
use native.Mathlib.Nat.{not-suc-le-zero, le_refl, zero-add}
use native.Mathlib.Decide.{dec_lt}
use native.Mathlib.Omega.{arith}
use lib.IntN.{ℤ}
use lib.ListN.{length, get_or, drop, length-append}
use lib.Seq.{get_or-append_seam}
use Rattle.theory.specs.Deciding.{Alike, In, alike_decided, find}
use Rattle.theory.specs.Functions.{Agree, held, parts, zero_fun}
use Rattle.theory.specs.Diagrams.{Branch, Node, at, base, blank, empty, node, node_of, value}
use Rattle.theory.specs.Comparing.{branch_discrete, node_discrete}
use Rattle.theory.specs.WellFormed.{WellFormed}
use Rattle.theory.specs.Build.{Built, below, build, decide, each, make, table}
use Rattle.theory.specs.Costs.{Cost, costs}
use Rattle.theory.proofs.Lists.{drop_head}
use Rattle.theory.proofs.Growing.{build_cons, build_nil, ext_append}
use Rattle.theory.proofs.WellFormed.{at_more, length_snoc, wf_empty, wf_prefix}
use Rattle.theory.proofs.Values.{value_split}
use Rattle.theory.proofs.Meaning.{Right, build_right, each_right}
use Rattle.theory_costs.specs.Narrow.{Spread, Narrow}
use Rattle.theory_costs.proofs.Relative.{from_ext}
use Rattle.theory_costs.proofs.Spreads.{spread_agree, spread_held, spread_lower}
use Rattle.promises.specs.CostSound.{from}

-- `make` adds one node or none
decide_cases : (k : ℕ) (bs : List (Branch costs)) (N : List (Node costs)) (d : Dec (Alike blank bs)) (f : Dec (In empty (node_of k bs) N)) →
    ((decide k bs N d f).1 ≡ N) ⊎ (decide k bs N d f ≡ (record { adds = base bs; to = node (length N) }, N ++ (node_of k bs ∷ [])))
unfolding decide
decide_cases k bs N (yes a) f = inl refl
decide_cases k bs N (no a) (yes w) = inl refl
decide_cases k bs N (no a) (no w) = inr refl

make_cases : (k : ℕ) (bs : List (Branch costs)) (N : List (Node costs)) → ((make k bs N).1 ≡ N) ⊎ (make k bs N ≡ (record { adds = base bs; to = node (length N) }, N ++ (node_of k bs ∷ [])))
unfolding make
make_cases k bs N = decide_cases k bs N (alike_decided branch_discrete blank bs) (find node_discrete empty (node_of k bs) N)

module _ {D : ℕ} (S : List ℕ) where
  pub narrow_empty : Narrow D S []
  narrow_empty = record { each = λ i h. absurd (not-suc-le-zero h) }

  narrow_snoc : (N : List (Node costs)) → WellFormed S N → Narrow D S N → (x : Node costs) (a : ℤ) (g : Cost) (k : ℕ) → x.feature ≡ k →
      Agree (drop k S) (value (N ++ (x ∷ [])) k (record { adds = a; to = node (length N) })) g → Spread D (drop k S) g → Narrow D S (N ++ (x ∷ []))
  narrow_snoc N w nr x a g k f e sp = record { each = λ i h. go i h (dec_lt i (length N)) }
    where
      M : List (Node costs)
      M = N ++ (x ∷ [])

      last : Spread D (drop k S) (from M k (node (length N)))
      last = spread_lower a (from M k (node (length N))) (spread_agree (λ s y. sym (value_split M k (record { adds = a; to = node (length N) }) s) ∙ e s y) sp)

      go : (i : ℕ) → i < length M → Dec (i < length N) → Spread D (drop (at M i).feature S) (from M (at M i).feature (node i))
      go i h (yes l) =
          rw (at_more N (x ∷ []) i l)
          (spread_agree (λ s y. from_ext N (at N i).feature S w M (ext_append N (x ∷ [])) (node i) s (l, le_refl _)) (nr.each i l))
      go i h (no l) =
          let e1 : i ≡ length N = omega (arith, length_snoc N x) in
          let e2 : (at M i).feature ≡ k = ap (λ (j : ℕ). (at M j).feature) e1 ∙ ap (λ (y : Node costs). y.feature) (get_or-append_seam N x [] empty) ∙ f in
          rw e2 (subst (λ (j : ℕ). Spread D (drop k S) (from M k (node j))) (sym e1) last)

  make_narrow : (k : ℕ) (bs : List (Branch costs)) (N M : List (Node costs)) (g : Cost) → WellFormed S M → Narrow D S M → Right S k (drop k S) g N (make k bs M) →
      Spread D (drop k S) g → Narrow D S (make k bs M).1
  make_narrow k bs N M g w nr r sp = go (make_cases k bs M)
    where
      go : ((make k bs M).1 ≡ M) ⊎ (make k bs M ≡ (record { adds = base bs; to = node (length M) }, M ++ (node_of k bs ∷ []))) → Narrow D S (make k bs M).1
      go (inl e) = subst (Narrow D S) (sym e) nr
      go (inr e) =
          let q : Right S k (drop k S) g N (record { adds = base bs; to = node (length M) }, M ++ (node_of k bs ∷ [])) = subst (Right S k (drop k S) g N) e r in
          subst (λ (b : Built costs). Narrow D S b.1) (sym e) (narrow_snoc M w nr (node_of k bs) (base bs) g k refl q.mean.says sp)

  -- the branches in turn
  parts_narrow : (k : ℕ) (ns : List ℕ) → drop k S ≡ ns → (g : Cost) (u n : ℕ) →
      ((v : ℕ) → v < u + n → (M : List (Node costs)) → WellFormed S M → Narrow D S M → Narrow D S (build k ns (held v g) M).1) →
      (N : List (Node costs)) → WellFormed S N → Narrow D S N → Narrow D S (each (build k ns) (parts u n g) N).1
  parts_narrow k ns rest g u zero h N w nr = nr
  parts_narrow k ns rest g u (suc n) h N w nr =
      parts_narrow k ns rest g (suc u) n (λ v l. h v (omega arith)) (build k ns (held u g) N).1 (build_right S k ns rest (held u g) N w).wf (h u (omega arith) N w nr)

  -- a cost of spread D builds nodes below which the spread is D
  pub build_narrow : (k : ℕ) (ns : List ℕ) → drop k S ≡ ns → (g : Cost) → Spread D ns g → (N : List (Node costs)) → WellFormed S N → Narrow D S N → Narrow D S (build k ns g N).1
  build_narrow k [] rest g sp N w nr = subst (λ (b : Built costs). Narrow D S b.1) (sym (build_nil k g N)) nr
  build_narrow k (n ∷ ns) rest g sp N w nr =
      let d : drop (suc k) S ≡ ns = (drop_head S k n ns rest).2 in
      let bs : List (Branch costs) = (below k n ns g N).0 in
      let M : List (Node costs) = (below k n ns g N).1 in
      subst (λ (b : Built costs). Narrow D S b.1) (sym (build_cons k n ns g N))
      (make_narrow k bs N M g
      (each_right S (suc k) ns (build (suc k) ns) (build_right S (suc k) ns d) (parts 0 n g) N w).wfs
      (parts_narrow (suc k) ns d g 0 n (λ v l. build_narrow (suc k) ns d (held v g) (spread_held g v (omega (arith, zero-add n)) sp)) N w nr)
      (subst (λ (ms : List ℕ). Right S k ms g N (make k bs M)) (sym rest) (subst (Right S k (n ∷ ns) g N) (build_cons k n ns g N) (build_right S k (n ∷ ns) rest g N w)))
      (subst (λ (ms : List ℕ). Spread D ms g) (sym rest) sp))

  -- the first v branches of a result
  pub branches_narrow : (k n : ℕ) (ns : List ℕ) → drop k S ≡ n ∷ ns → (g : Cost) → Spread D (n ∷ ns) g → (v : ℕ) → v ≤ n → (N : List (Node costs)) → WellFormed S N → Narrow D S N →
      Narrow D S (each (build (suc k) ns) (parts 0 v g) N).1
  branches_narrow k n ns rest g sp v l N w nr =
      let d : drop (suc k) S ≡ ns = (drop_head S k n ns rest).2 in
      parts_narrow (suc k) ns d g 0 v (λ u h. build_narrow (suc k) ns d (held u g) (spread_held g u (omega (arith, zero-add v)) sp)) N w nr

  -- THE NODES OF A TABLE: its costs within ±B, D is 2B
  builds_narrow : (gs : List Cost) → ((p : ℕ) → p < length gs → Spread D S (get_or gs p zero_fun)) → (N : List (Node costs)) → WellFormed S N → Narrow D S N → Narrow D S (each (build 0 S) gs N).1
  builds_narrow [] h N w nr = nr
  builds_narrow (g ∷ gs) h N w nr =
      builds_narrow gs (λ p l. h (suc p) (omega arith)) (build 0 S g N).1 (build_right S 0 S refl g N w).wf (build_narrow 0 S refl g (h 0 (omega arith)) N w nr)

  pub table_narrow : (gs : List Cost) → ((p : ℕ) → p < length gs → Spread D S (get_or gs p zero_fun)) → Narrow D S (table S gs).1
  table_narrow gs h = builds_narrow gs h [] (wf_empty S) narrow_empty

  -- what is cut off at the end changes nothing
  pub narrow_prefix : (A B : List (Node costs)) → WellFormed S (A ++ B) → Narrow D S (A ++ B) → Narrow D S A
  narrow_prefix A B w nr =
      record {
        each =
            λ i h. subst (λ (x : Node costs). Spread D (drop x.feature S) (from A x.feature (node i))) (at_more A B i h)
            (spread_agree (λ s y. sym (from_ext A (at (A ++ B) i).feature S (wf_prefix S A B w) (A ++ B) (ext_append A B) (node i) s (h, same i h)))
            (nr.each i (omega (arith, length-append A B))));
      }
    where
      same : (i : ℕ) → i < length A → (at (A ++ B) i).feature ≤ (at A i).feature
      same i h = let e : (at (A ++ B) i).feature ≡ (at A i).feature = ap (λ (x : Node costs). x.feature) (at_more A B i h) in omega arith
