-- `build` gives its function, and keeps node lists well formed, reduced and without twins. Assumes nothing.
use mathlib.Core.Path.{◌≡◌, refl, sym, ap, ◌∙◌, subst}
use mathlib.Core.List.{List, [], ◌∷◌, ◌++◌}
use Prim.Native.Nat.{ℕ, suc, ◌<◌}
use native.Mathlib.Nat.{zero-add, le_refl}
use native.Mathlib.Decide.{dec_lt}
use native.Mathlib.Omega.{arith}
use lib.ListN.{length, get_or, drop, length-map, get_or-eq_default}
use lib.Seq.{get_or-append_seam}
use Rattle.theory.specs.Kind.{Kind}
use Rattle.theory.specs.Deciding.{Alike, In, alike_decided, find}
use Rattle.theory.specs.Settings.{Valid}
use Rattle.theory.specs.Functions.{Fun, held, parts}
use Rattle.theory.specs.Diagrams.{Branch, Node, base, blank, empty, leaf, less, node_of, value}
use Rattle.theory.specs.Comparing.{branch_discrete, node_discrete}
use Rattle.theory.specs.WellFormed.{Fits, Mean, Means, Ok, Under, WellFormed}
use Rattle.theory.specs.Build.{Built, Ext, below, build, decide, each, make}
use Rattle.theory.proofs.Lists.{drop_head}
use Rattle.theory.proofs.Offsets.{base_zero, less_alike, less_to}
use Rattle.theory.proofs.Growing.{build_cons, build_nil, ext_refl, ext_trans}
use Rattle.theory.proofs.WellFormed.{length_snoc, under_weaken, wf_snoc}
use Rattle.theory.proofs.Values.{amount_end, mean_more, means_at, means_length, node_mean, value_wait}

module _ {K : Kind} where
  -- what is right of a result r of building g onto N
  pub record Right (S : List ℕ) (k : ℕ) (ns : List ℕ) (g : Fun K) (N : List (Node K)) (r : Built K) : Type 0 where
    pub grows : Ext N r.1
    pub wf : WellFormed S r.1
    pub mean : Mean r.1 k ns r.0 g

  -- and of functions in turn
  pub record Rights (S : List ℕ) (k : ℕ) (ns : List ℕ) (gs : List (Fun K)) (N : List (Node K)) (r : List (Branch K) × List (Node K)) : Type 0 where
    pub grow : Ext N r.1
    pub wfs : WellFormed S r.1
    pub means : Means r.1 k ns r.0 gs

  pub each_right : (S : List ℕ) (k : ℕ) (ns : List ℕ) (f : Fun K → List (Node K) → Built K) → ((g : Fun K) (N : List (Node K)) → WellFormed S N → Right S k ns g N (f g N)) →
      (gs : List (Fun K)) (N : List (Node K)) → WellFormed S N → Rights S k ns gs N (each f gs N)
  each_right S k ns f h [] N w = record { grow = ext_refl N; wfs = w; means = tt }
  each_right S k ns f h (g ∷ gs) N w =
      let a : Right S k ns g N (f g N) = h g N w in
      let t : Rights S k ns gs (f g N).1 (each f gs (f g N).1) = each_right S k ns f h gs (f g N).1 a.wf in
      record { grow = ext_trans a.grows t.grow; wfs = t.wfs; means = (mean_more S a.wf t.grow a.mean, t.means) }

  module _ (S : List ℕ) (k n : ℕ) (ns : List ℕ) (rest : drop k S ≡ n ∷ ns) (g : Fun K) (bs : List (Branch K)) (N : List (Node K)) (w : WellFormed S N)
      (size : length bs ≡ n) (m : (v : ℕ) → v < n → Mean N (suc k) ns (get_or bs v blank) (held v g)) where
    branch_ok : (v : ℕ) → Ok N (suc k) (get_or bs v blank)
    branch_ok v = go (dec_lt v n)
      where
        go : Dec (v < n) → Ok N (suc k) (get_or bs v blank)
        go (yes h) = (m v h).ok
        go (no h) = let e : get_or bs v blank ≡ blank = get_or-eq_default bs blank (omega arith) in rw e tt

    pub decide_right : (d : Dec (Alike blank bs)) (f : Dec (In empty (node_of k bs) N)) → Right S k (n ∷ ns) g N (decide k bs N d f)
    unfolding decide
    decide_right (yes a) f =
        record {
          grows = ext_refl N;
          wf = w;
          mean = record { ok = under_weaken N (length N) (length N) (suc k) k (get_or bs 0 blank).to (le_refl _) (omega arith) (branch_ok 0); says = says };
        }
      where
        says : (s : List ℕ) → Valid (n ∷ ns) s → value N k (get_or bs 0 blank) s ≡ g s
        says [] x = absurd x
        says (v ∷ s) x =
            value_wait N k (get_or bs 0 blank) v s (branch_ok 0)
            ∙ ap (λ (b : Branch K). value N (suc k) b s) (sym (a v (omega arith)))
            ∙ (m v x.0).says s x.1
    decide_right (no a) (yes f) = record { grows = ext_refl N; wf = w; mean = node_mean N k n ns g bs size f.0 f.1 f.2 m }
    decide_right (no a) (no f) =
        record {
          grows = ext;
          wf = wf_snoc S N x w fits f;
          mean = node_mean (N ++ (x ∷ [])) k n ns g bs size (length N) (omega (arith, length_snoc N x)) (get_or-append_seam N x [] empty) (λ v h. mean_more S w ext (m v h));
        }
      where
        x : Node K
        x = node_of k bs

        ext : Ext N (N ++ (x ∷ []))
        ext = record { more = x ∷ []; ends = refl }

        fits : Fits S N (length N) x
        fits =
            record {
              known = (drop_head S k n ns rest).0;
              full = length-map bs (less (base bs)) ∙ size ∙ sym (drop_head S k n ns rest).1;
              differ = λ q. a (less_alike bs q);
              zeroed = base_zero bs;
              lower = λ v. subst (Under N (length N) (suc k)) (sym (less_to (base bs) bs v)) (branch_ok v);
            }

    make_right : Right S k (n ∷ ns) g N (make k bs N)
    unfolding make
    make_right = decide_right (alike_decided branch_discrete blank bs) (find node_discrete empty (node_of k bs) N)

  right_from : {S : List ℕ} {k : ℕ} {ns : List ℕ} {g : Fun K} {N N' : List (Node K)} {r : Built K} → Ext N N' → Right S k ns g N' r → Right S k ns g N r
  right_from e r = record { grows = ext_trans e r.grows; wf = r.wf; mean = r.mean }

  -- THE MEANING OF BUILD: the branch gives g at every valid setting, the list only grows and stays well formed, reduced and without twins
  pub build_right : (S : List ℕ) (k : ℕ) (ns : List ℕ) → drop k S ≡ ns → (g : Fun K) (N : List (Node K)) → WellFormed S N → Right S k ns g N (build k ns g N)
  build_right S k [] rest g N w =
      rw build_nil (record { grows = ext_refl N; wf = w; mean = record { ok = tt; says = says } })
    where
      says : (s : List ℕ) → Valid [] s → value N k (record { adds = (g []).off; to = leaf (g []).end }) s ≡ g s
      says [] x = amount_end N k g
      says (v ∷ s) x = absurd x
  build_right S k (n ∷ ns) rest g N w =
      let t : Rights S (suc k) ns (parts 0 n g) N (below k n ns g N) =
      each_right S (suc k) ns (build (suc k) ns) (build_right S (suc k) ns (drop_head S k n ns rest).2) (parts 0 n g) N w in
      rw build_cons
      (right_from t.grow
      (make_right S k n ns rest g (below k n ns g N).0 (below k n ns g N).1 t.wfs
      (means_length (below k n ns g N).1 (suc k) ns (below k n ns g N).0 0 n g t.means)
      (λ v h. rw zero-add at (means_at (below k n ns g N).1 (suc k) ns (below k n ns g N).0 0 n g t.means v h))))

  pub builds_right : (S : List ℕ) (gs : List (Fun K)) (N : List (Node K)) → WellFormed S N → Rights S 0 S gs N (each (build 0 S) gs N)
  builds_right S gs N w = each_right S 0 S (build 0 S) (build_right S 0 S refl) gs N w
