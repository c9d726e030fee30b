-- Building only adds nodes at the end; what is built branch by branch, or one function after the other. Assumes nothing.
use mathlib.Core.Path.{◌≡◌, refl, sym, ap, ◌∙◌}
use mathlib.Core.List.{List, [], ◌∷◌, ◌++◌, append-nil, append_assoc}
use Prim.Native.Nat.{ℕ, zero, suc, ◌+◌, ◌≤◌, ◌<◌}
use native.Mathlib.Nat.{zero-add, add-zero}
use native.Mathlib.Omega.{arith}
use lib.ListN.{length, take, length-append}
use lib.Seq.{take-append-le}
use Rattle.theory.specs.Kind.{Kind}
use Rattle.theory.specs.Deciding.{Alike, In, alike_decided, find}
use Rattle.theory.specs.Functions.{Fun, held, parts}
use Rattle.theory.specs.Diagrams.{Branch, Node, blank, empty, leaf, node_of}
use Rattle.theory.specs.Comparing.{branch_discrete, node_discrete}
use Rattle.theory.specs.Build.{Built, Ext, below, build, decide, each, make}

module _ {K : Kind} where
  -- the clauses of `build`, as equations: elsewhere it stays shut
  pub build_nil : (k : ℕ) (g : Fun K) (N : List (Node K)) → build k [] g N ≡ (record { adds = (g []).off; to = leaf (g []).end }, N)
  unfolding build
  build_nil k g N = refl

  pub build_cons : (k n : ℕ) (ns : List ℕ) (g : Fun K) (N : List (Node K)) → build k (n ∷ ns) g N ≡ make k (below k n ns g N).0 (below k n ns g N).1
  unfolding build
  build_cons k n ns g N = refl

  pub ext_refl : (N : List (Node K)) → Ext N N
  ext_refl N = record { more = []; ends = sym (append-nil N) }

  pub ext_append : (N l : List (Node K)) → Ext N (N ++ l)
  ext_append N l = record { more = l; ends = refl }

  pub ext_trans : {A B C : List (Node K)} → Ext A B → Ext B C → Ext A C
  ext_trans {A} p q = record { more = p.more ++ q.more; ends = q.ends ∙ ap (λ (l : List (Node K)). l ++ q.more) p.ends ∙ append_assoc A p.more q.more }

  pub ext_le : {A B : List (Node K)} → Ext A B → length A ≤ length B
  ext_le {A} p = omega (arith, ap length p.ends, length-append A p.more)

  decide_grows : (k : ℕ) (bs : List (Branch K)) (N : List (Node K)) (d : Dec (Alike blank bs)) (f : Dec (In empty (node_of k bs) N)) → Ext N (decide k bs N d f).1
  unfolding decide
  decide_grows k bs N (yes a) f = search (ext_refl, ext_append)
  decide_grows k bs N (no a) (yes w) = search (ext_refl, ext_append)
  decide_grows k bs N (no a) (no w) = search (ext_refl, ext_append)

  pub make_grows : (k : ℕ) (bs : List (Branch K)) (N : List (Node K)) → Ext N (make k bs N).1
  unfolding make
  make_grows k bs N = decide_grows k bs N (alike_decided branch_discrete blank bs) (find node_discrete empty (node_of k bs) N)

  pub each_grows : (f : Fun K → List (Node K) → Built K) → ((g : Fun K) (N : List (Node K)) → Ext N (f g N).1) → (gs : List (Fun K)) (N : List (Node K)) → Ext N (each f gs N).1
  each_grows f h [] N = ext_refl N
  each_grows f h (g ∷ gs) N = ext_trans (h g N) (each_grows f h gs _)

  -- `build` only adds, at the end
  pub build_grows : (k : ℕ) (ns : List ℕ) (g : Fun K) (N : List (Node K)) → Ext N (build k ns g N).1
  build_grows k [] g N = rw build_nil (ext_refl N)
  build_grows k (n ∷ ns) g N =
      rw build_cons (ext_trans (each_grows (build (suc k) ns) (build_grows (suc k) ns) (parts 0 n g) N) (make_grows k _ _))

  pub take_ext : (c : ℕ) {N N' : List (Node K)} → Ext N N' → c ≤ length N → take c N' ≡ take c N
  take_ext c {N} e h = ap (take c) e.ends ∙ take-append-le c N e.more h

  pub each_append : (f : Fun K → List (Node K) → Built K) (gs hs : List (Fun K)) (N : List (Node K)) →
      each f (gs ++ hs) N ≡ ((each f gs N).0 ++ (each f hs (each f gs N).1).0, (each f hs (each f gs N).1).1)
  each_append f [] hs N = refl
  each_append f (g ∷ gs) hs N = ap (λ (q : List (Branch K) × List (Node K)). let t : List (Branch K) × List (Node K) = ((f g N).0 ∷ q.0, q.1) in t) (each_append f gs hs (f g N).1)

  pub each_length : (f : Fun K → List (Node K) → Built K) (gs : List (Fun K)) (N : List (Node K)) → length (each f gs N).0 ≡ length gs
  each_length f [] N = refl
  each_length f (g ∷ gs) N = ap suc (each_length f gs (f g N).1)

  -- a list that is too long stays too long
  pub build_over : (cap k : ℕ) (ns : List ℕ) (g : Fun K) (N : List (Node K)) → cap < length N → cap < length (build k ns g N).1
  build_over cap k ns g N h = omega (arith, ext_le (build_grows k ns g N))

  pub each_over : (cap k : ℕ) (ns : List ℕ) (gs : List (Fun K)) (N : List (Node K)) → cap < length N → cap < length (each (build k ns) gs N).1
  each_over cap k ns gs N h = omega (arith, ext_le (each_grows (build k ns) (build_grows k ns) gs N))

  -- one function more
  pub parts_snoc : (g : Fun K) (u n : ℕ) → parts u (suc n) g ≡ parts u n g ++ (held (u + n) g ∷ [])
  parts_snoc g u zero = rw add-zero refl
  parts_snoc g u (suc n) =
      let e : u + suc n ≡ suc u + n = omega arith in
      ap (λ (l : List (Fun K)). held u g ∷ l) (parts_snoc g (suc u) n) ∙ rw e refl

  pub each_snoc : (f : Fun K → List (Node K) → Built K) (g : Fun K) (n : ℕ) (N : List (Node K)) →
      each f (parts 0 (suc n) g) N
      ≡ ((each f (parts 0 n g) N).0 ++ ((f (held n g) (each f (parts 0 n g) N).1).0 ∷ []), (f (held n g) (each f (parts 0 n g) N).1).1)
  each_snoc f g n N =
      ap (λ (l : List (Fun K)). each f l N) (parts_snoc g 0 n ∙ ap (λ (m : ℕ). parts 0 n g ++ (held m g ∷ [])) (zero-add n)) ∙ each_append f (parts 0 n g) (held n g ∷ []) N

  -- one more, by results
  pub each_last : (f : Fun K → List (Node K) → Built K) (gs : List (Fun K)) (g : Fun K) (M M' M'' : List (Node K)) (bs : List (Branch K)) (b : Branch K) →
      each f gs M ≡ (bs, M') → f g M' ≡ (b, M'') → each f (gs ++ (g ∷ [])) M ≡ (bs ++ (b ∷ []), M'')
  each_last f gs g M M' M'' bs b e q =
      each_append f gs (g ∷ []) M
      ∙ ap (λ (r : List (Branch K) × List (Node K)). let t : List (Branch K) × List (Node K) = (r.0 ++ ((f g r.1).0 ∷ []), (f g r.1).1) in t) e
      ∙ ap (λ (r : Built K). let t : List (Branch K) × List (Node K) = (bs ++ (r.0 ∷ []), r.1) in t) q
