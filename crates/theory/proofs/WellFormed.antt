-- Well-formed node lists: none, one node more, a prefix. Assumes nothing.
use mathlib.Core.Path.{◌≡◌, sym, ap, ◌∙◌}
use mathlib.Core.List.{List, [], ◌∷◌, ◌++◌}
use Prim.Native.Nat.{ℕ, zero, suc, ◌≤◌, ◌<◌}
use native.Mathlib.Nat.{not-suc-le-zero, le_refl}
use native.Mathlib.Decide.{dec_lt}
use native.Mathlib.Omega.{arith}
use lib.ListN.{length, get_or, take, drop, length-append, get_or-append, take-append-drop}
use lib.Seq.{get_or-append_seam}
use Rattle.theory.specs.Kind.{Kind}
use Rattle.theory.specs.Deciding.{In}
use Rattle.theory.specs.Diagrams.{Branch, Node, Target, at, blank, empty, leaf, node}
use Rattle.theory.specs.WellFormed.{AllOk, Fits, Ok, Under, WellFormed}
use Rattle.theory.specs.Build.{Ext}

module _ {K : Kind} where
  pub wf_empty : (S : List ℕ) → WellFormed {K = K} S []
  wf_empty S = record { fits = λ i h. absurd (not-suc-le-zero h); once = λ i j h. absurd (not-suc-le-zero h) }

  pub at_more : (N M : List (Node K)) (i : ℕ) → i < length N → at (N ++ M) i ≡ at N i
  at_more N M i h = get_or-append N M empty i h

  pub under_more : (N M : List (Node K)) (m m' k k' : ℕ) (b : Target K) → m ≤ length N → m ≤ m' → k' ≤ k → Under N m k b → Under (N ++ M) m' k' b
  under_more N M m m' k k' (leaf p) h h' l u = tt
  under_more N M m m' k k' (node j) h h' l u =
      let e : (at (N ++ M) j).feature ≡ (at N j).feature = ap (λ (x : Node K). x.feature) (at_more N M j (omega arith)) in
      (omega arith, omega arith)

  pub under_weaken : (N : List (Node K)) (m m' k k' : ℕ) (b : Target K) → m ≤ m' → k' ≤ k → Under N m k b → Under N m' k' b
  under_weaken N m m' k k' (leaf p) h l u = tt
  under_weaken N m m' k k' (node j) h l u = (omega arith, omega arith)

  fits_more : (S : List ℕ) (N M : List (Node K)) (m : ℕ) (x : Node K) → m ≤ length N → Fits S N m x → Fits S (N ++ M) m x
  fits_more S N M m x h f =
      record {
        known = f.known;
        full = f.full;
        differ = f.differ;
        zeroed = f.zeroed;
        lower = λ v. under_more N M m m _ (suc x.feature) (get_or x.branches v blank).to h (omega arith) (le_refl _) (f.lower v);
      }

  pub length_snoc : (N : List (Node K)) (x : Node K) → length (N ++ (x ∷ [])) ≡ suc (length N)
  length_snoc N x = omega (arith, length-append N (x ∷ []))

  pub wf_snoc : (S : List ℕ) (N : List (Node K)) (x : Node K) → WellFormed S N → Fits S N (length N) x → ¬ In empty x N → WellFormed S (N ++ (x ∷ []))
  wf_snoc S N x w f fresh =
      record {
        fits = λ i h. node_fits i (dec_lt i (length N)) h;
        once = λ i j hi hj e. apart i j (dec_lt i (length N)) (dec_lt j (length N)) hi hj e;
      }
    where
      N' : List (Node K)
      N' = N ++ (x ∷ [])

      old : (i : ℕ) → i < length N → at N' i ≡ at N i
      old = at_more N (x ∷ [])

      is_last : (i : ℕ) → i < length N' → ¬ (i < length N) → i ≡ length N
      is_last i h l = omega (arith, length_snoc N x)

      new : (i : ℕ) → i ≡ length N → at N' i ≡ x
      new i e = rw e (get_or-append_seam N x [] empty)

      node_fits : (i : ℕ) → Dec (i < length N) → i < length N' → Fits S N' i (at N' i)
      node_fits i (yes l) h = rw (old i l) (fits_more S N (x ∷ []) i (at N i) (omega arith) (w.fits i l))
      node_fits i (no l) h = rw (new i (is_last i h l)) (rw (is_last i h l) (fits_more S N (x ∷ []) (length N) x (omega arith) f))

      apart : (i j : ℕ) → Dec (i < length N) → Dec (j < length N) → i < length N' → j < length N' → at N' i ≡ at N' j → i ≡ j
      apart i j (yes li) (yes lj) hi hj e = w.once i j li lj (sym (old i li) ∙ e ∙ old j lj)
      apart i j (yes li) (no lj) hi hj e = absurd (fresh (i, li, sym (old i li) ∙ e ∙ new j (is_last j hj lj)))
      apart i j (no li) (yes lj) hi hj e = absurd (fresh (j, lj, sym (old j lj) ∙ sym e ∙ new i (is_last i hi li)))
      apart i j (no li) (no lj) hi hj e = is_last i hi li ∙ sym (is_last j hj lj)

  -- a prefix of a well-formed list is one
  pub wf_prefix : (S : List ℕ) (A B : List (Node K)) → WellFormed S (A ++ B) → WellFormed S A
  wf_prefix S A B w =
      record {
        fits = λ i h. fits i h (rw (at_more A B i h) at (w.fits i (omega (arith, length-append A B))));
        once = λ i j hi hj e. w.once i j (omega (arith, length-append A B)) (omega (arith, length-append A B)) (at_more A B i hi ∙ e ∙ sym (at_more A B j hj));
      }
    where
      under : (m k : ℕ) (b : Target K) → m ≤ length A → Under (A ++ B) m k b → Under A m k b
      under m k (leaf p) h u = tt
      under m k (node j) h u =
          let e : (at (A ++ B) j).feature ≡ (at A j).feature = ap (λ (x : Node K). x.feature) (at_more A B j (omega arith)) in
          (u.0, omega arith)

      fits : (i : ℕ) → i < length A → Fits S (A ++ B) i (at A i) → Fits S A i (at A i)
      fits i h f = record { known = f.known; full = f.full; differ = f.differ; zeroed = f.zeroed; lower = λ v. under i _ (get_or (at A i).branches v blank).to (omega arith) (f.lower v) }

  pub wf_take : (S : List ℕ) (N : List (Node K)) (c : ℕ) → WellFormed S N → WellFormed S (take c N)
  wf_take S N c w = wf_prefix S (take c N) (drop c N) (rw take-append-drop w)

  pub at_ext : {A B : List (Node K)} → Ext A B → (i : ℕ) → i < length A → at B i ≡ at A i
  at_ext {A} e i h = ap (λ (l : List (Node K)). at l i) e.ends ∙ at_more A e.more i h

  -- a branch is good in every longer list
  pub ok_ext : (N M : List (Node K)) (k : ℕ) (b : Branch K) → Ext N M → Ok N k b → Ok M k b
  ok_ext N M k b e o = rw e.ends (under_more N e.more (length N) _ k k b.to (le_refl _) (omega (arith, length-append N e.more)) (le_refl _) o)

  -- a list of roots by places
  pub all_ok_at : (N : List (Node K)) (bs : List (Branch K)) (p : ℕ) → AllOk N bs → Ok N 0 (get_or bs p blank)
  all_ok_at N [] p o = tt
  all_ok_at N (b ∷ bs) zero o = o.0
  all_ok_at N (b ∷ bs) (suc p) o = all_ok_at N bs p o.1

  pub all_ok_of : (N : List (Node K)) (bs : List (Branch K)) → ((p : ℕ) → p < length bs → Ok N 0 (get_or bs p blank)) → AllOk N bs
  all_ok_of N [] h = tt
  all_ok_of N (b ∷ bs) h = (h 0 (omega arith), all_ok_of N bs (λ p l. h (suc p) (omega arith)))
