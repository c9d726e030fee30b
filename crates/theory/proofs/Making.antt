-- `make`, case by case: all branches equal, an equal node there, a new node. Assumes nothing.
use mathlib.Core.Path.{◌≡◌, refl, sym, ap, ◌∙◌}
use mathlib.Core.List.{List, [], ◌∷◌, ◌++◌, map}
use Prim.Native.Nat.{ℕ, suc, ◌<◌}
use native.Mathlib.Omega.{arith}
use lib.ListN.{length, get_or, take}
use lib.Seq.{length-take-le, take-suc, get_or-take}
use Rattle.theory.specs.Kind.{Kind}
use Rattle.theory.specs.Deciding.{Alike, Are, In, alike_decided, find}
use Rattle.theory.specs.Diagrams.{Branch, Node, at, base, blank, empty, node, node_of, up}
use Rattle.theory.specs.Comparing.{branch_discrete, node_discrete}
use Rattle.theory.specs.WellFormed.{Fits, Ok, WellFormed}
use Rattle.theory.specs.Build.{Built, decide, make}
use Rattle.theory.proofs.Offsets.{Level, base_up, branch_to, level_node, node_of_up, node_with, up_alike}
use Rattle.theory.proofs.WellFormed.{wf_snoc}

module _ {K : Kind} where
  decide_alike : (k : ℕ) (bs : List (Branch K)) (N : List (Node K)) (d : Dec (Alike blank bs)) (f : Dec (In empty (node_of k bs) N)) → Alike blank bs → decide k bs N d f ≡ (get_or bs 0 blank, N)
  unfolding decide
  decide_alike k bs N (yes a) f h = refl
  decide_alike k bs N (no a) f h = absurd (a h)

  pub make_alike : (k : ℕ) (bs : List (Branch K)) (N : List (Node K)) (b : Branch K) → Are blank b bs → 0 < length bs → make k bs N ≡ (b, N)
  unfolding make
  make_alike k bs N b h l =
      decide_alike k bs N (alike_decided branch_discrete blank bs) (find node_discrete empty (node_of k bs) N) (λ i hi. h i hi ∙ sym (h 0 l))
      ∙ ap (λ (c : Branch K). let t : Built K = (c, N) in t) (h 0 l)

  decide_there : (S : List ℕ) (k : ℕ) (bs : List (Branch K)) (N : List (Node K)) (d : Dec (Alike blank bs)) (f : Dec (In empty (node_of k bs) N)) → WellFormed S N →
      (i : ℕ) → i < length N → at N i ≡ node_of k bs → ¬ Alike blank bs → decide k bs N d f ≡ (record { adds = base bs; to = node i }, N)
  unfolding decide
  decide_there S k bs N (yes a) f w i h e n = absurd (n a)
  decide_there S k bs N (no a) (yes f) w i h e n = ap (λ (j : ℕ). let t : Built K = (record { adds = base bs; to = node j }, N) in t) (w.once f.0 i f.1 h (f.2 ∙ sym e))
  decide_there S k bs N (no a) (no f) w i h e n = absurd (f (i, h, e))

  pub make_there : (S : List ℕ) (k : ℕ) (bs : List (Branch K)) (N : List (Node K)) → WellFormed S N → (i : ℕ) → i < length N → at N i ≡ node_of k bs → ¬ Alike blank bs
      → make k bs N ≡ (record { adds = base bs; to = node i }, N)
  unfolding make
  make_there S k bs N w i h e n =
      decide_there S k bs N (alike_decided branch_discrete blank bs) (find node_discrete empty (node_of k bs) N) w i h e n

  decide_new : (k : ℕ) (bs : List (Branch K)) (N : List (Node K)) (d : Dec (Alike blank bs)) (f : Dec (In empty (node_of k bs) N)) → ¬ Alike blank bs → ¬ In empty (node_of k bs) N →
      decide k bs N d f ≡ (record { adds = base bs; to = node (length N) }, N ++ (node_of k bs ∷ []))
  unfolding decide
  decide_new k bs N (yes a) f na nf = absurd (na a)
  decide_new k bs N (no a) (yes f) na nf = absurd (nf f)
  decide_new k bs N (no a) (no f) na nf = refl

  pub make_new : (k : ℕ) (bs : List (Branch K)) (N : List (Node K)) → ¬ Alike blank bs → ¬ In empty (node_of k bs) N
      → make k bs N ≡ (record { adds = base bs; to = node (length N) }, N ++ (node_of k bs ∷ []))
  unfolding make
  make_new k bs N na nf = decide_new k bs N (alike_decided branch_discrete blank bs) (find node_discrete empty (node_of k bs) N) na nf

  -- node i of N is what `make` makes of its branches, with an offset on each, after the nodes before it
  pub make_next : (S : List ℕ) (N : List (Node K)) → WellFormed S N → (a : K.Off) (k i : ℕ) → i < length N → (at N i).feature ≡ k → 0 < length (at N i).branches →
      make k (map (up a) (at N i).branches) (take i N) ≡ (record { adds = a; to = node i }, take (suc i) N)
  make_next S N w a k i h p pos =
      make_new k (map (up a) cs) (take i N) (λ q. f.differ (up_alike cs a f.zeroed pos q)) fresh
      ∙ ap (λ (c : K.Off). let t : Built K = (record { adds = c; to = node (length (take i N)) }, take i N ++ (node_of k (map (up a) cs) ∷ [])) in t) (base_up cs a f.zeroed pos)
      ∙ ap (λ (x : Node K). let t : Built K = (record { adds = a; to = node (length (take i N)) }, take i N ++ (x ∷ [])) in t) (sym same)
      ∙ ap (λ (j : ℕ). let t : Built K = (record { adds = a; to = node j }, take i N ++ (at N i ∷ [])) in t) l
      ∙ ap (λ (M : List (Node K)). let t : Built K = (record { adds = a; to = node i }, M) in t) (sym (take-suc N i empty h))
    where
      cs : List (Branch K)
      cs = (at N i).branches

      f : Fits S N i (at N i)
      f = w.fits i h

      l : length (take i N) ≡ i
      l = length-take-le i N (omega arith)

      same : at N i ≡ node_of k (map (up a) cs)
      same = (λ j. record { feature = p j; branches = cs }) ∙ node_of_up cs a f.zeroed pos k

      fresh : ¬ In empty (node_of k (map (up a) cs)) (take i N)
      fresh (j, hj, e) =
          let q : j ≡ i = w.once j i (omega (arith, l)) h (sym (get_or-take i N j empty (omega (arith, l))) ∙ e ∙ sym same) in
          omega (arith, l)

  -- an equal node is there
  pub make_at : (S : List ℕ) (k : ℕ) (bs : List (Branch K)) (N : List (Node K)) → WellFormed S N → Level bs → (i : ℕ) → i < length N → at N i ≡ node_with k bs → ¬ Alike blank bs → make k bs N ≡ (branch_to i, N)
  make_at S k bs N w z i h e n =
      make_there S k bs N w i h (e ∙ sym (level_node k bs z)) n ∙ ap (λ (a : K.Off). let t : Built K = (record { adds = a; to = node i }, N) in t) z

  -- no equal node is there: a new one
  pub make_last : (k : ℕ) (bs : List (Branch K)) (N : List (Node K)) → Level bs → ¬ Alike blank bs → ¬ In empty (node_with k bs) N → make k bs N ≡ (branch_to (length N), N ++ (node_with k bs ∷ []))
  make_last k bs N z n m =
      make_new k bs N n (λ q. m (q.0, q.1, q.2 ∙ level_node k bs z))
      ∙ ap (λ (x : Node K). let t : Built K = (record { adds = base bs; to = node (length N) }, N ++ (x ∷ [])) in t) (level_node k bs z)
      ∙ ap (λ (a : K.Off). let t : Built K = (record { adds = a; to = node (length N) }, N ++ (node_with k bs ∷ [])) in t) z

  -- the list with the new node is well formed
  pub wf_new : (S : List ℕ) (N : List (Node K)) → WellFormed S N → (k : ℕ) (bs : List (Branch K)) → Level bs → k < length S → length bs ≡ get_or S k 0 → ((v : ℕ) → Ok N (suc k) (get_or bs v blank)) →
      ¬ Alike blank bs → ¬ In empty (node_with k bs) N → WellFormed S (N ++ (node_with k bs ∷ []))
  wf_new S N w k bs z hk len ok varied missing = wf_snoc S N (node_with k bs) w (record { known = hk; full = len; differ = varied; zeroed = z; lower = ok }) missing
