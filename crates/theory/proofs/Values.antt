-- What a branch means: one step, more nodes, an offset, a node. Assumes nothing.
use mathlib.Core.Path.{◌≡◌, refl, sym, ap, ◌∙◌, subst}
use mathlib.Core.List.{List, [], ◌∷◌, ◌++◌}
use Prim.Native.Nat.{ℕ, zero, suc, ◌+◌, ◌<◌}
use native.Mathlib.Nat.{le_of_suc-le-suc, not-suc-le-zero, add-zero, le_refl}
use native.Mathlib.Decide.{ℕ_discrete}
use native.Mathlib.Omega.{arith}
use lib.ListN.{length, get_or, length-append}
use Rattle.theory.specs.Kind.{Kind}
use Rattle.theory.specs.Settings.{Valid, zeros}
use Rattle.theory.specs.Functions.{Amount, Fun, held, lift, parts, zero_fun}
use Rattle.theory.specs.Diagrams.{Branch, Node, Target, at, base, blank, ended, ending, go_on, leaf, next, node, node_of, at_feature, plain, up, value}
use Rattle.theory.specs.WellFormed.{Mean, Means, Ok, Under, WellFormed}
use Rattle.theory.specs.Build.{Ext}
use Rattle.theory.proofs.Offsets.{base_back}
use Rattle.theory.proofs.WellFormed.{at_more, under_more, under_weaken, wf_prefix}

module _ {K : Kind} where
  feature_here : (x : Node K) (k i v : ℕ) (a : K.Off) (d : Dec (x.feature ≡ k)) → x.feature ≡ k → at_feature x k i v a d ≡ up a (get_or x.branches v blank)
  unfolding at_feature
  feature_here x k i v a (yes p) e = refl
  feature_here x k i v a (no p) e = absurd (p e)

  feature_wait : (x : Node K) (k i v : ℕ) (a : K.Off) (d : Dec (x.feature ≡ k)) → ¬ (x.feature ≡ k) → at_feature x k i v a d ≡ record { adds = a; to = node i }
  unfolding at_feature
  feature_wait x k i v a (yes p) e = absurd (e p)
  feature_wait x k i v a (no p) e = refl

  feature_up : (x : Node K) (k i v : ℕ) (c a : K.Off) (d : Dec (x.feature ≡ k)) → at_feature x k i v (K.plus c a) d ≡ up c (at_feature x k i v a d)
  unfolding at_feature
  feature_up x k i v c a (yes p) = λ j. record { adds = K.group.plus_assoc c a (get_or x.branches v blank).adds j; to = (get_or x.branches v blank).to }
  feature_up x k i v c a (no p) = refl

  pub next_here : (N : List (Node K)) (k i v : ℕ) (a : K.Off) → (at N i).feature ≡ k → go_on N k a (node i) v ≡ up a (get_or (at N i).branches v blank)
  unfolding go_on
  next_here N k i v a e = feature_here (at N i) k i v a (ℕ_discrete (at N i).feature k) e

  go_on_wait : (N : List (Node K)) (k : ℕ) (a : K.Off) (t : Target K) (v : ℕ) → Under N (length N) (suc k) t → go_on N k a t v ≡ record { adds = a; to = t }
  unfolding go_on
  go_on_wait N k a (leaf p) v o = refl
  go_on_wait N k a (node i) v o = feature_wait (at N i) k i v a (ℕ_discrete (at N i).feature k) (omega arith)

  go_on_up : (N : List (Node K)) (k : ℕ) (c a : K.Off) (t : Target K) (v : ℕ) → go_on N k (K.plus c a) t v ≡ up c (go_on N k a t v)
  unfolding go_on
  go_on_up N k c a (leaf p) v = refl
  go_on_up N k c a (node i) v = feature_up (at N i) k i v c a (ℕ_discrete (at N i).feature k)

  go_on_more : (N M : List (Node K)) (k : ℕ) (a : K.Off) (t : Target K) (v : ℕ) → Under N (length N) k t → go_on (N ++ M) k a t v ≡ go_on N k a t v
  unfolding go_on
  go_on_more N M k a (leaf p) v o = refl
  go_on_more N M k a (node i) v o = ap (λ (x : Node K). at_feature x k i v a (ℕ_discrete x.feature k)) (at_more N M i o.0)

  pub go_on_ok : (S : List ℕ) (N : List (Node K)) → WellFormed S N → (k : ℕ) (a : K.Off) (t : Target K) (v : ℕ) → Under N (length N) k t → Ok N (suc k) (go_on N k a t v)
  unfolding go_on at_feature
  go_on_ok S N w k a (leaf p) v o = tt
  go_on_ok S N w k a (node i) v o = go (ℕ_discrete (at N i).feature k)
    where
      go : (d : Dec ((at N i).feature ≡ k)) → Ok N (suc k) (at_feature (at N i) k i v a d)
      go (yes p) = under_weaken N i (length N) _ (suc k) (get_or (at N i).branches v blank).to (omega arith) (omega arith) ((w.fits i o.0).lower v)
      go (no p) = (o.0, omega arith)

  pub next_more : (N M : List (Node K)) (k : ℕ) (b : Branch K) (v : ℕ) → Ok N k b → next (N ++ M) k b v ≡ next N k b v
  next_more N M k b v o = go_on_more N M k b.adds b.to v o

  pub next_ok : (S : List ℕ) (N : List (Node K)) → WellFormed S N → (k : ℕ) (b : Branch K) (v : ℕ) → Ok N k b → Ok N (suc k) (next N k b v)
  next_ok S N w k b v o = go_on_ok S N w k b.adds b.to v o

  pub next_wait : (N : List (Node K)) (k : ℕ) (b : Branch K) (v : ℕ) → Ok N (suc k) b → next N k b v ≡ b
  next_wait N k b v o = go_on_wait N k b.adds b.to v o

  pub value_end : (N : List (Node K)) (k : ℕ) (b : Branch K) → value N k b [] ≡ ended b.adds b.to
  unfolding value
  value_end N k b = refl

  pub value_next : (N : List (Node K)) (k : ℕ) (b : Branch K) (v : ℕ) (s : List ℕ) → value N k b (v ∷ s) ≡ value N (suc k) (next N k b v) s
  unfolding value
  value_next N k b v s = refl

  ended_up : (c a : K.Off) (t : Target K) → ended (K.plus c a) t ≡ lift c (ended a t)
  unfolding ended
  ended_up c a (leaf e) = refl
  ended_up c a (node i) = refl

  -- an offset on a branch is one on its meaning
  pub value_up : (N : List (Node K)) (k : ℕ) (c : K.Off) (b : Branch K) (s : List ℕ) → value N k (up c b) s ≡ lift c (value N k b s)
  value_up N k c b [] = value_end N k (up c b) ∙ ended_up c b.adds b.to ∙ ap (lift c) (sym (value_end N k b))
  value_up N k c b (v ∷ s) =
      value_next N k (up c b) v s
      ∙ ap (λ (d : Branch K). value N (suc k) d s) (go_on_up N k c b.adds b.to v)
      ∙ value_up N (suc k) c (next N k b v) s
      ∙ ap (lift c) (sym (value_next N k b v s))

  pub value_more : (S : List ℕ) (N M : List (Node K)) → WellFormed S N → (k : ℕ) (b : Branch K) (s : List ℕ) → Ok N k b → value (N ++ M) k b s ≡ value N k b s
  unfolding value
  value_more S N M w k b [] o = refl
  value_more S N M w k b (v ∷ s) o =
      ap (λ (c : Branch K). value (N ++ M) (suc k) c s) (go_on_more N M k b.adds b.to v o) ∙ value_more S N M w (suc k) (next N k b v) s (go_on_ok S N w k b.adds b.to v o)

  pub value_wait : (N : List (Node K)) (k : ℕ) (b : Branch K) (v : ℕ) (s : List ℕ) → Ok N (suc k) b → value N k b (v ∷ s) ≡ value N (suc k) b s
  unfolding value
  value_wait N k b v s o = ap (λ (c : Branch K). value N (suc k) c s) (go_on_wait N k b.adds b.to v o)

  pub value_here : (N : List (Node K)) (k i v : ℕ) (a : K.Off) (s : List ℕ) → (at N i).feature ≡ k
      → value N k (record { adds = a; to = node i }) (v ∷ s) ≡ value N (suc k) (up a (get_or (at N i).branches v blank)) s
  unfolding value
  value_here N k i v a s e = ap (λ (c : Branch K). value N (suc k) c s) (next_here N k i v a e)

  pub mean_more : (S : List ℕ) {N N' : List (Node K)} {k : ℕ} {ns : List ℕ} {b : Branch K} {g : Fun K} → WellFormed S N → Ext N N' → Mean N k ns b g → Mean N' k ns b g
  mean_more S {N} {N'} {k} {ns} {b} {g} w e m =
      rw e.ends
      (record {
        ok = under_more N e.more (length N) _ k k b.to (le_refl _) (omega (arith, length-append N e.more)) (le_refl _) m.ok;
        says = λ s h. value_more S N e.more w k b s m.ok ∙ m.says s h;
      })

  pub means_length : (N : List (Node K)) (k : ℕ) (ns : List ℕ) (bs : List (Branch K)) (v n : ℕ) (g : Fun K) → Means N k ns bs (parts v n g) → length bs ≡ n
  means_length N k ns [] v zero g m = refl
  means_length N k ns [] v (suc n) g m = absurd m
  means_length N k ns (b ∷ bs) v zero g m = absurd m
  means_length N k ns (b ∷ bs) v (suc n) g m = ap suc (means_length N k ns bs (suc v) n g m.1)

  pub means_at : (N : List (Node K)) (k : ℕ) (ns : List ℕ) (bs : List (Branch K)) (u n : ℕ) (g : Fun K) → Means N k ns bs (parts u n g) → (v : ℕ) → v < n
      → Mean N k ns (get_or bs v blank) (held (u + v) g)
  means_at N k ns bs u zero g m v h = absurd (not-suc-le-zero h)
  means_at N k ns [] u (suc n) g m v h = absurd m
  means_at N k ns (b ∷ bs) u (suc n) g m zero h = rw add-zero m.0
  means_at N k ns (b ∷ bs) u (suc n) g m (suc v) h =
      let e : u + suc v ≡ suc u + v = omega arith in
      rw e (means_at N k ns bs (suc u) n g m.1 v (le_of_suc-le-suc h))

  -- a node whose branches mean the function's branches means the function
  pub node_mean : (N : List (Node K)) (k n : ℕ) (ns : List ℕ) (g : Fun K) (bs : List (Branch K)) → length bs ≡ n → (i : ℕ) → i < length N → at N i ≡ node_of k bs →
      ((v : ℕ) → v < n → Mean N (suc k) ns (get_or bs v blank) (held v g)) → Mean N k (n ∷ ns) (record { adds = base bs; to = node i }) g
  node_mean N k n ns g bs size i h e m =
      let f : (at N i).feature ≡ k = ap (λ (x : Node K). x.feature) e in
      record { ok = (h, omega arith); says = says }
    where
      says : (s : List ℕ) → Valid (n ∷ ns) s → value N k (record { adds = base bs; to = node i }) s ≡ g s
      says [] x = absurd x
      says (v ∷ s) x =
          value_here N k i v (base bs) s (ap (λ (x : Node K). x.feature) e)
          ∙ ap (λ (y : Node K). value N (suc k) (up (base bs) (get_or y.branches v blank)) s) e
          ∙ ap (λ (b : Branch K). value N (suc k) b s) (base_back bs v (omega (arith, x.0)))
          ∙ (m v x.0).says s x.1

  pub amount_end : (N : List (Node K)) (k : ℕ) (g : Fun K) → value N k (record { adds = (g []).off; to = leaf (g []).end }) [] ≡ g []
  unfolding value ended
  amount_end N k g = refl

  pub mean_wait : {N : List (Node K)} {k n : ℕ} {ns : List ℕ} {b : Branch K} {g : Fun K} → Mean N k (n ∷ ns) b g → Ok N (suc k) b → (v : ℕ) → v < n → Mean N (suc k) ns b (held v g)
  mean_wait {N} {k} {b = b} m o v h = record { ok = o; says = λ s x. sym (value_wait N k b v s o) ∙ m.says (v ∷ s) (h, x) }

  pub mean_here : (S : List ℕ) {N : List (Node K)} {k n i : ℕ} {a : K.Off} {ns : List ℕ} {g : Fun K} → WellFormed S N → Mean N k (n ∷ ns) (record { adds = a; to = node i }) g → (at N i).feature ≡ k →
      (v : ℕ) → v < n → Mean N (suc k) ns (up a (get_or (at N i).branches v blank)) (held v g)
  mean_here S {N} {k} {i = i} {a = a} w m e v h =
      record {
        ok = under_weaken N i (length N) (suc (at N i).feature) (suc k) (get_or (at N i).branches v blank).to (omega (arith, m.ok.0)) (omega arith) ((w.fits i m.ok.0).lower v);
        says = λ s x. sym (value_here N k i v a s e) ∙ m.says (v ∷ s) (h, x);
      }

  -- a branch's amount where all remaining features are 0 is what it adds
  go_on_zero : (S : List ℕ) (N : List (Node K)) → WellFormed S N → (k : ℕ) (a : K.Off) (t : Target K) → Under N (length N) k t → (go_on N k a t 0).adds ≡ a
  unfolding go_on at_feature
  go_on_zero S N w k a (leaf e) o = refl
  go_on_zero S N w k a (node i) o = go (ℕ_discrete (at N i).feature k)
    where
      go : (d : Dec ((at N i).feature ≡ k)) → (at_feature (at N i) k i 0 a d).adds ≡ a
      go (yes p) = ap (K.plus a) (w.fits i o.0).zeroed ∙ K.group.plus_nil a
      go (no p) = refl

  ended_off : (a : K.Off) (t : Target K) → (ended a t).off ≡ a
  unfolding ended
  ended_off a (leaf e) = refl
  ended_off a (node i) = refl

  pub value_zeros : (S : List ℕ) (N : List (Node K)) → WellFormed S N → (k : ℕ) (ns : List ℕ) (b : Branch K) → Ok N k b → (value N k b (zeros ns)).off ≡ b.adds
  value_zeros S N w k [] b o = ap (λ (x : Amount K). x.off) (value_end N k b) ∙ ended_off b.adds b.to
  value_zeros S N w k (n ∷ ns) b o =
      ap (λ (x : Amount K). x.off) (value_next N k b 0 (zeros ns))
      ∙ value_zeros S N w (suc k) ns (next N k b 0) (go_on_ok S N w k b.adds b.to 0 o)
      ∙ go_on_zero S N w k b.adds b.to o

  -- what a branch adds is added to what lies below its target
  pub value_split : (N : List (Node K)) (k : ℕ) (b : Branch K) (s : List ℕ) → value N k b s ≡ lift b.adds (value N k (record { adds = K.nil; to = b.to }) s)
  value_split N k b s = ap (λ (c : K.Off). value N k (record { adds = c; to = b.to }) s) (sym (K.group.plus_nil b.adds)) ∙ value_up N k b.adds (record { adds = K.nil; to = b.to }) s

  pub value_plain : (N : List (Node K)) (k i : ℕ) (a : K.Off) (s : List ℕ) → value N k (record { adds = a; to = node i }) s ≡ lift a (value N k (plain i) s)
  value_plain N k i a s = value_split N k (record { adds = a; to = node i }) s

  pub means_place : (N : List (Node K)) (k : ℕ) (ns : List ℕ) (bs : List (Branch K)) (gs : List (Fun K)) → Means N k ns bs gs → (i : ℕ) → i < length gs
      → Mean N k ns (get_or bs i blank) (get_or gs i zero_fun)
  means_place N k ns bs [] m i h = absurd (not-suc-le-zero h)
  means_place N k ns [] (g ∷ gs) m i h = absurd m
  means_place N k ns (b ∷ bs) (g ∷ gs) m zero h = m.0
  means_place N k ns (b ∷ bs) (g ∷ gs) m (suc i) h = means_place N k ns bs gs m.1 i (le_of_suc-le-suc h)

  -- a meaning in a list is one in a prefix that holds the branch
  pub mean_prefix : (S : List ℕ) (A B : List (Node K)) (k : ℕ) (ns : List ℕ) (b : Branch K) (g : Fun K) → WellFormed S (A ++ B) → Ok A k b → Mean (A ++ B) k ns b g → Mean A k ns b g
  mean_prefix S A B k ns b g w o m = record { ok = o; says = λ s x. sym (value_more S A B (wf_prefix S A B w) k b s o) ∙ m.says s x }

  pub means_of : (N : List (Node K)) (k : ℕ) (ns : List ℕ) (bs : List (Branch K)) (u n : ℕ) (g : Fun K) → length bs ≡ n
      → ((v : ℕ) → v < n → Mean N k ns (get_or bs v blank) (held (u + v) g)) → Means N k ns bs (parts u n g)
  means_of N k ns [] u zero g l m = tt
  means_of N k ns [] u (suc n) g l m = absurd (let z : 0 ≡ suc n = l in omega arith)
  means_of N k ns (b ∷ bs) u zero g l m = absurd (omega arith)
  means_of N k ns (b ∷ bs) u (suc n) g l m = (
    (rw add-zero at (m 0 (omega arith))),
    means_of N k ns bs (suc u) n g (omega arith) (λ v h. let e : u + suc v ≡ suc u + v = omega arith in subst (λ (w : ℕ). Mean N k ns (get_or bs v blank) (held w g)) e (m (suc v) (omega arith))),
  )

  pub value_ending : (N : List (Node K)) (k : ℕ) (x : Amount K) (s : List ℕ) → value N k (ending x) s ≡ x
  unfolding value go_on ended
  value_ending N k x [] = refl
  value_ending N k x (v ∷ s) = value_ending N (suc k) x s

  -- a longer list says the same of the old branches
  pub value_ext : (S : List ℕ) (N M : List (Node K)) (k : ℕ) (b : Branch K) (s : List ℕ) → WellFormed S N → Ext N M → Ok N k b → value M k b s ≡ value N k b s
  value_ext S N M k b s w e o = rw e.ends (value_more S N e.more w k b s o)

  pub next_ext : (N M : List (Node K)) (k : ℕ) (b : Branch K) (v : ℕ) → Ext N M → Ok N k b → next M k b v ≡ next N k b v
  next_ext N M k b v e o = rw e.ends (next_more N e.more k b v o)
