-- Rules whose phrases are below B build nodes whose phrases are, and the other way round. Assumes nothing.
use mathlib.Core.Path.{◌≡◌, sym, ap, ◌∙◌, subst}
use mathlib.Core.List.{List, [], ◌∷◌, ◌++◌}
use Prim.Native.Nat.{ℕ, zero, suc, ◌+◌, ◌<◌}
use native.Mathlib.Nat.{zero-add}
use native.Mathlib.Decide.{ℕ_discrete, dec_lt}
use native.Mathlib.Omega.{arith}
use lib.ListN.{length, get_or, get_or-eq_default}
use lib.Seq.{get_or-append_seam}
use Rattle.theory.specs.Deciding.{Alike, In, alike_decided, find}
use Rattle.theory.specs.Settings.{Valid}
use Rattle.theory.specs.Functions.{held, parts, zero_fun}
use Rattle.theory.specs.Diagrams as D
use Rattle.theory.specs.Diagrams.{Target, at, base, blank, empty, ended, go_on, next, node_of, at_feature, value}
use Rattle.theory.specs.Comparing.{branch_discrete, node_discrete}
use Rattle.theory.specs.Build.{below, build, decide, each, make}
use Rattle.theory.specs.Rules.{Branch, Built, Node, Rule, number, rules}
use Rattle.theory.proofs.Offsets.{less_to}
use Rattle.theory.proofs.Growing.{build_cons, build_nil}
use Rattle.theory.proofs.WellFormed.{at_more, length_snoc}

-- a phrase below B, or a node
abbrev pub Bounded : ℕ → Target rules → Type 0
Bounded B (D.leaf p) = p < B
Bounded B (D.node i) = Unit {0}

-- all phrases of a list of branches, of a node list, of what one rule and what several build
pub record Branches (B : ℕ) (bs : List Branch) : Type 0 where
  pub branch : (v : ℕ) → Bounded B (get_or bs v blank).to

pub record Bounds (B : ℕ) (N : List Node) : Type 0 where
  pub node : (i : ℕ) → Branches B (at N i).branches

pub record Result (B : ℕ) (r : Built) : Type 0 where
  pub list : Bounds B r.1
  pub root : Bounded B r.0.to

pub record Results (B : ℕ) (r : List Branch × List Node) : Type 0 where
  pub list : Bounds B r.1
  pub roots : Branches B r.0

module _ (B : ℕ) (pos : 0 < B) where
  next_bounded : (N : List Node) → Bounds B N → (k : ℕ) (t : Target rules) (v : ℕ) → Bounded B t → Bounded B (go_on N k tt t v).to
  unfolding go_on at_feature
  next_bounded N h k (D.leaf p) v b = b
  next_bounded N h k (D.node i) v b = go (ℕ_discrete (at N i).feature k)
    where
      go : (d : Dec ((at N i).feature ≡ k)) → Bounded B (at_feature (at N i) k i v tt d).to
      go (yes p) = (h.node i).branch v
      go (no p) = tt

  ended_bounded : (t : Target rules) → Bounded B t → (ended tt t).end < B
  unfolding ended
  ended_bounded (D.leaf p) b = b
  ended_bounded (D.node i) b = pos

  -- bounded nodes mean bounded rules
  pub value_bounded : (N : List Node) → Bounds B N → (k : ℕ) (b : Branch) (s : List ℕ) → Bounded B b.to → number N k b s < B
  unfolding value
  value_bounded N h k b [] o = ended_bounded b.to o
  value_bounded N h k b (v ∷ s) o = value_bounded N h (suc k) (next N k b v) s (next_bounded N h k b.to v o)

  none_bounded : Branches B []
  none_bounded = record { branch = λ v. pos }

  pub empty_bounded : Bounds B []
  empty_bounded = record { node = λ i. none_bounded }

  snoc_bounded : (N : List Node) (x : Node) → Bounds B N → Branches B x.branches → Bounds B (N ++ (x ∷ []))
  snoc_bounded N x h l = record { node = λ i. go i (dec_lt i (length N)) (ℕ_discrete i (length N)) }
    where
      here : (i : ℕ) (y : Node) → at (N ++ (x ∷ [])) i ≡ y → Branches B y.branches → Branches B (at (N ++ (x ∷ [])) i).branches
      here i y e = subst (λ (z : Node). Branches B z.branches) (sym e)

      go : (i : ℕ) → Dec (i < length N) → Dec (i ≡ length N) → Branches B (at (N ++ (x ∷ [])) i).branches
      go i (yes p) d = here i (at N i) (at_more N (x ∷ []) i p) (h.node i)
      go i (no p) (yes q) = here i x (ap (at (N ++ (x ∷ []))) q ∙ get_or-append_seam N x [] empty) l
      go i (no p) (no q) = here i empty (get_or-eq_default (N ++ (x ∷ [])) empty (omega (arith, length_snoc N x, p, q))) none_bounded

  decide_bounded : (k : ℕ) (bs : List Branch) (N : List Node) (d : Dec (Alike blank bs)) (f : Dec (In empty (node_of k bs) N)) → Bounds B N → Branches B bs → Result B (decide k bs N d f)
  unfolding decide
  decide_bounded k bs N (yes a) f h l = record { list = h; root = l.branch 0 }
  decide_bounded k bs N (no a) (yes w) h l = record { list = h; root = tt }
  decide_bounded k bs N (no a) (no w) h l =
      record { list = snoc_bounded N (node_of k bs) h (record { branch = λ v. subst (Bounded B) (sym (less_to (base bs) bs v)) (l.branch v) }); root = tt }

  make_bounded : (k : ℕ) (bs : List Branch) (N : List Node) → Bounds B N → Branches B bs → Result B (make k bs N)
  unfolding make
  make_bounded k bs N = decide_bounded k bs N (alike_decided branch_discrete blank bs) (find node_discrete empty (node_of k bs) N)

  onto_bounded : (f : Rule → List Node → Built) (g : Rule) (gs : List Rule) (N : List Node) → Result B (f g N) → Results B (each f gs (f g N).1) → Results B (each f (g ∷ gs) N)
  onto_bounded f g gs N r t = record { list = t.list; roots = record { branch = go } }
    where
      go : (v : ℕ) → Bounded B (get_or (each f (g ∷ gs) N).0 v blank).to
      go zero = r.root
      go (suc v) = t.roots.branch v

  parts_bounded : (f : Rule → List Node → Built) (g : Rule) (u n : ℕ) → ((v : ℕ) → v < u + n → (N : List Node) → Bounds B N → Result B (f (held v g) N)) →
      (N : List Node) → Bounds B N → Results B (each f (parts u n g) N)
  parts_bounded f g u zero a N b = record { list = b; roots = none_bounded }
  parts_bounded f g u (suc n) a N b =
      let r : Result B (f (held u g) N) = a u (omega arith) N b in
      onto_bounded f (held u g) (parts (suc u) n g) N r (parts_bounded f g (suc u) n (λ v l. a v (omega arith)) (f (held u g) N).1 r.list)

  -- bounded rules build bounded nodes
  pub build_bounded : (k : ℕ) (ns : List ℕ) (g : Rule) → ((s : List ℕ) → Valid ns s → (g s).end < B) → (N : List Node) → Bounds B N → Result B (build k ns g N)
  build_bounded k [] g h N b = rw build_nil (record { list = b; root = h [] tt })
  build_bounded k (n ∷ ns) g h N b =
      let t : Results B (below k n ns g N) =
      parts_bounded (build (suc k) ns) g 0 n (λ v l. build_bounded (suc k) ns (held v g) (λ s x. h (v ∷ s) (omega (arith, zero-add n), x))) N b in
      rw build_cons (make_bounded k (below k n ns g N).0 (below k n ns g N).1 t.list t.roots)

  pub rules_bounded : (S : List ℕ) (gs : List Rule) → ((p : ℕ) → p < length gs → (s : List ℕ) → Valid S s → (get_or gs p zero_fun s).end < B) →
      (N : List Node) → Bounds B N → Results B (each (build 0 S) gs N)
  rules_bounded S [] h N b = record { list = b; roots = none_bounded }
  rules_bounded S (g ∷ gs) h N b =
      let r : Result B (build 0 S g N) = build_bounded 0 S g (h 0 (omega arith)) N b in
      onto_bounded (build 0 S) g gs N r (rules_bounded S gs (λ p l. h (suc p) (omega arith)) (build 0 S g N).1 r.list)
