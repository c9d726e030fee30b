-- An offset on a function is one on its branch: the nodes are the same. Assumes nothing.
use mathlib.Core.Path.{◌≡◌, refl, sym, ap, ◌∙◌}
use mathlib.Core.List.{List, [], ◌∷◌, ◌++◌, map}
use Prim.Native.Nat.{ℕ, zero, suc, ◌<◌}
use native.Mathlib.Omega.{arith}
use lib.ListN.{length, get_or, drop, length-map}
use Rattle.theory.specs.Kind.{Kind}
use Rattle.theory.specs.Deciding.{Alike, In, alike_decided, find}
use Rattle.theory.specs.Settings.{Pos, zeros}
use Rattle.theory.specs.Functions.{Amount, Fun, held, lift, parts}
use Rattle.theory.specs.Diagrams.{Branch, Node, base, blank, empty, less, node, node_of, up}
use Rattle.theory.specs.Comparing.{branch_discrete, node_discrete}
use Rattle.theory.specs.WellFormed.{WellFormed}
use Rattle.theory.specs.Build.{Built, below, build, decide, each, make}
use Rattle.theory.proofs.Lists.{drop_head, get_or_map_in}
use Rattle.theory.proofs.Ranges.{zeros_valid}
use Rattle.theory.proofs.Offsets.{less_up, map_less_both}
use Rattle.theory.proofs.Growing.{build_cons, build_nil}
use Rattle.theory.proofs.Values.{means_length, value_zeros}
use Rattle.theory.proofs.Meaning.{Right, Rights, build_right, each_right}
use Rattle.theory.proofs.Making.{make_alike, make_new, make_there}
use Rattle.theory.proofs.Canonical.{onto}

module _ {K : Kind} where
  pub make_lift : (S : List ℕ) (k : ℕ) (a : K.Off) (bs : List (Branch K)) (N : List (Node K)) → WellFormed S N → 0 < length bs → make k (map (up a) bs) N ≡ (up a (make k bs N).0, (make k bs N).1)
  unfolding make
  make_lift S k a bs N w l = go (alike_decided branch_discrete blank bs) (find node_discrete empty (node_of k bs) N)
    where
      first : get_or (map (up a) bs) 0 blank ≡ up a (get_or bs 0 blank)
      first = get_or_map_in (up a) blank blank bs 0 l

      same : node_of k (map (up a) bs) ≡ node_of k bs
      same =
          let e : map (less (base (map (up a) bs))) (map (up a) bs) ≡ map (less (base bs)) bs =
          ap (λ (c : Branch K). map (less c.adds) (map (up a) bs)) first ∙ map_less_both a (base bs) bs in
          λ i. record { feature = k; branches = e i }

      unalike : Alike blank (map (up a) bs) → Alike blank bs
      unalike h i hi =
          let e : up a (get_or bs i blank) ≡ up a (get_or bs 0 blank) =
          sym (get_or_map_in (up a) blank blank bs i hi) ∙ h i (omega (arith, length-map bs (up a))) ∙ first in
          sym (less_up a (get_or bs i blank)) ∙ ap (less a) e ∙ less_up a (get_or bs 0 blank)

      go : (d : Dec (Alike blank bs)) (f : Dec (In empty (node_of k bs) N)) → make k (map (up a) bs) N ≡ (up a (decide k bs N d f).0, (decide k bs N d f).1)
      go d f = by d f
        where
          by : (d : Dec (Alike blank bs)) (f : Dec (In empty (node_of k bs) N)) → make k (map (up a) bs) N ≡ (up a (decide k bs N d f).0, (decide k bs N d f).1)
          by (yes h) f =
              make_alike k (map (up a) bs) N (up a (get_or bs 0 blank))
              (λ i hi. get_or_map_in (up a) blank blank bs i (omega (arith, length-map bs (up a))) ∙ ap (up a) (h i (omega (arith, length-map bs (up a)))))
              (omega (arith, length-map bs (up a)))
          by (no h) (yes x) =
              make_there S k (map (up a) bs) N w x.0 x.1 (x.2 ∙ sym same) (λ q. h (unalike q))
              ∙ ap (λ (c : Branch K). let t : Built K = (record { adds = c.adds; to = node x.0 }, N) in t) first
          by (no h) (no x) =
              make_new k (map (up a) bs) N (λ q. h (unalike q)) (λ y. x (y.0, y.1, y.2 ∙ same))
              ∙ ap (λ (c : Branch K). let t : Built K = (record { adds = c.adds; to = node (length N) }, N ++ (node_of k (map (up a) bs) ∷ [])) in t) first
              ∙ ap (λ (y : Node K). let t : Built K = (record { adds = K.plus a (base bs); to = node (length N) }, N ++ (y ∷ [])) in t) same

  abbrev lifted : K.Off → Fun K → Fun K
  lifted a g = λ s. lift a (g s)

  each_lift : (S : List ℕ) (k : ℕ) (ns : List ℕ) → drop k S ≡ ns → (a : K.Off) →
      ((g : Fun K) (N : List (Node K)) → WellFormed S N → build k ns (lifted a g) N ≡ (up a (build k ns g N).0, (build k ns g N).1)) →
      (g : Fun K) (u n : ℕ) (N : List (Node K)) → WellFormed S N → each (build k ns) (parts u n (lifted a g)) N ≡ (map (up a) (each (build k ns) (parts u n g) N).0, (each (build k ns) (parts u n g) N).1)
  each_lift S k ns rest a h g u zero N w = refl
  each_lift S k ns rest a h g u (suc n) N w =
      ap (onto (build k ns) (parts (suc u) n (lifted a g))) (h (held u g) N w)
      ∙ ap (λ (q : List (Branch K) × List (Node K)). let t : List (Branch K) × List (Node K) = (up a (build k ns (held u g) N).0 ∷ q.0, q.1) in t)
      (each_lift S k ns rest a h g (suc u) n (build k ns (held u g) N).1 (build_right S k ns rest (held u g) N w).wf)

  pub build_lift : (S : List ℕ) (k : ℕ) (ns : List ℕ) → drop k S ≡ ns → Pos ns → (a : K.Off) (g : Fun K) (N : List (Node K)) → WellFormed S N →
      build k ns (λ s. lift a (g s)) N ≡ (up a (build k ns g N).0, (build k ns g N).1)
  build_lift S k [] rest pos a g N w = build_nil k (lifted a g) N ∙ ap (λ (r : Built K). let x : Built K = (up a r.0, r.1) in x) (sym (build_nil k g N))
  build_lift S k (n ∷ ns) rest pos a g N w =
      let q : List (Branch K) × List (Node K) = below k n ns g N in
      let d : drop (suc k) S ≡ ns = (drop_head S k n ns rest).2 in
      let t : Rights S (suc k) ns (parts 0 n g) N q = each_right S (suc k) ns (build (suc k) ns) (build_right S (suc k) ns d) (parts 0 n g) N w in
      build_cons k n ns (lifted a g) N
      ∙ ap (λ (r : List (Branch K) × List (Node K)). make k r.0 r.1) (each_lift S (suc k) ns d a (build_lift S (suc k) ns d pos.1 a) g 0 n N w)
      ∙ make_lift S k a q.0 q.1 t.wfs (let l = means_length q.1 (suc k) ns q.0 0 n g t.means in let z = pos.0 in omega arith)
      ∙ ap (λ (r : Built K). let x : Built K = (up a r.0, r.1) in x) (sym (build_cons k n ns g N))

  -- what the result's branch adds is the function's offset where all features that are left are 0
  pub build_adds : (S : List ℕ) (k : ℕ) (ns : List ℕ) → drop k S ≡ ns → Pos ns → (g : Fun K) (N : List (Node K)) → WellFormed S N → (build k ns g N).0.adds ≡ (g (zeros ns)).off
  build_adds S k ns rest pos g N w =
      let r : Right S k ns g N (build k ns g N) = build_right S k ns rest g N w in
      sym (value_zeros S (build k ns g N).1 r.wf k ns (build k ns g N).0 r.mean.ok)
      ∙ ap (λ (x : Amount K). x.off) (r.mean.says (zeros ns) (zeros_valid ns pos))
