-- The root of a function is the last node that building it added, where it added any. Assumes nothing.
use mathlib.Core.Path.{◌≡◌, refl, sym, ap, ◌∙◌}
use mathlib.Core.Logic.{◌⊎◌, inl, inr, ⊎_elim}
use mathlib.Core.List.{List, [], ◌∷◌}
use Prim.Native.Nat.{ℕ, suc, ◌≤◌, ◌<◌}
use native.Mathlib.Omega.{arith}
use lib.ListN.{length, get_or, drop}
use Rattle.theory.specs.Kind.{Kind}
use Rattle.theory.specs.Deciding.{Alike, In, alike_decided, find}
use Rattle.theory.specs.Functions.{Fun, parts}
use Rattle.theory.specs.Diagrams.{Branch, Node, Target, at, base, blank, empty, leaf, node, node_of}
use Rattle.theory.specs.Comparing.{branch_discrete, node_discrete}
use Rattle.theory.specs.WellFormed.{Under, WellFormed}
use Rattle.theory.specs.Build.{Built, below, build, decide, each, make}
use Rattle.theory.proofs.Lists.{drop_head}
use Rattle.theory.proofs.Offsets.{less_to}
use Rattle.theory.proofs.Growing.{build_cons, build_nil, ext_le}
use Rattle.theory.proofs.WellFormed.{length_snoc}
use Rattle.theory.proofs.Meaning.{build_right, each_right}

module _ {K : Kind} where
  -- 1 + the index of the node, 0 where there is none
  abbrev pub above : Target K → ℕ
  above (leaf e) = 0
  above (node i) = suc i

  pub above_under : (N : List (Node K)) (m k : ℕ) (t : Target K) → Under N m k t → above t ≤ m
  above_under N m k (leaf e) u = omega arith
  above_under N m k (node i) u = omega (arith, u.0)

  -- no node was added, or the last one is that of one of the branches
  Last : List (Node K) → List (Branch K) × List (Node K) → Type 0
  Last N r = (length r.1 ≡ length N) ⊎ ((v : ℕ) × (v < length r.0) × (above (get_or r.0 v blank).to ≡ length r.1))

  Top : List (Node K) → Built K → Type 0
  Top N r = (length r.1 ≡ length N) ⊎ (above r.0.to ≡ length r.1)

  each_top : (S : List ℕ) (f : Fun K → List (Node K) → Built K) → ((g : Fun K) (N : List (Node K)) → WellFormed S N → (WellFormed S (f g N).1) × (Top N (f g N))) →
      (gs : List (Fun K)) (N : List (Node K)) → WellFormed S N → Last N (each f gs N)
  unfolding Last Top
  each_top S f h [] N w = inl refl
  each_top S f h (g ∷ gs) N w =
      let a = h g N w in
      ⊎_elim
      (λ e. ⊎_elim (λ x. inl (e ∙ x)) (λ x. inr (0, omega arith, x ∙ sym e)) a.1)
      (λ u. inr (suc u.0, omega (arith, u.1), u.2))
      (each_top S f h gs (f g N).1 a.0)

  decide_top : (S : List ℕ) (k : ℕ) (bs : List (Branch K)) (N M : List (Node K)) → WellFormed S M → Last N (bs, M) → (d : Dec (Alike blank bs)) (f : Dec (In empty (node_of k bs) M))
      → Top N (decide k bs M d f)
  unfolding Last Top decide
  decide_top S k bs N M w l (yes a) f = ⊎_elim (λ e. inl e) (λ u. inr (ap (λ (b : Branch K). above b.to) (sym (a u.0 u.1)) ∙ u.2)) l
  decide_top S k bs N M w l (no a) (yes f) = ⊎_elim
      (λ e. inl e)
      (λ u.
      let x : Under M f.0 (suc (at M f.0).feature) (get_or (at M f.0).branches u.0 blank).to = (w.fits f.0 f.1).lower u.0 in
      let e : (get_or (at M f.0).branches u.0 blank).to ≡ (get_or bs u.0 blank).to =
      ap (λ (y : Node K). (get_or y.branches u.0 blank).to) f.2 ∙ less_to (base bs) bs u.0 in
      let y : above (get_or (at M f.0).branches u.0 blank).to ≤ f.0 = above_under M f.0 (suc (at M f.0).feature) (get_or (at M f.0).branches u.0 blank).to x in
      let z : above (get_or (at M f.0).branches u.0 blank).to ≡ length M = ap (λ (t : Target K). above t) e ∙ u.2 in
      absurd (omega (arith, f.1)))
      l
  decide_top S k bs N M w l (no a) (no f) = inr (sym (length_snoc M (node_of k bs)))

  make_top : (S : List ℕ) (k : ℕ) (bs : List (Branch K)) (N M : List (Node K)) → WellFormed S M → Last N (bs, M) → Top N (make k bs M)
  unfolding make
  make_top S k bs N M w l = decide_top S k bs N M w l (alike_decided branch_discrete blank bs) (find node_discrete empty (node_of k bs) M)

  build_last : (S : List ℕ) (k : ℕ) (ns : List ℕ) → drop k S ≡ ns → (g : Fun K) (N : List (Node K)) → WellFormed S N → Top N (build k ns g N)
  unfolding Top
  build_last S k [] rest g N w = rw build_nil (inl refl)
  build_last S k (n ∷ ns) rest g N w =
      let d = (drop_head S k n ns rest).2 in
      rw build_cons
      (make_top S k (below k n ns g N).0 N (below k n ns g N).1
      (each_right S (suc k) ns (build (suc k) ns) (build_right S (suc k) ns d) (parts 0 n g) N w).wfs
      (each_top S (build (suc k) ns) (λ h M x. ((build_right S (suc k) ns d h M x).wf, build_last S (suc k) ns d h M x)) (parts 0 n g) N w))

  -- what building leaves: the root lies within, and it is the last node where any was added
  pub record Topped (N : List (Node K)) (r : Built K) : Type 0 where
    pub within : above r.0.to ≤ length r.1
    pub grows : length N ≤ length r.1
    pub last : length N < length r.1 → above r.0.to ≡ length r.1

  pub build_topped : (S : List ℕ) (g : Fun K) (N : List (Node K)) → WellFormed S N → Topped N (build 0 S g N)
  unfolding Top
  build_topped S g N w =
      let r = build_right S 0 S refl g N w in
      record {
        within = above_under (build 0 S g N).1 (length (build 0 S g N).1) 0 (build 0 S g N).0.to r.mean.ok;
        grows = ext_le r.grows;
        last = λ l. ⊎_elim (λ e. absurd (omega arith)) (λ e. e) (build_last S 0 S refl g N w);
      }
