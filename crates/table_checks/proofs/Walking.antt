-- The soundness test's walk, step by step, over the shape of a table: a branch, the branches of a node, the roots. Assumes nothing.
use mathlib.Core.Path.{◌≡◌, refl, sym, ap, subst, ◌∙◌}
use mathlib.Core.Logic.{⊎_elim}
use mathlib.Core.List.{List}
use mathlib.Core.Option.{Option, none, some}
use Rattle.std.proofs.Common.{Option as Answer, Some, None}
use Rattle.std.proofs.lemmas.Option.{none-some, same_Some}
use Prim.Native.Nat.{ℕ, zero, suc, ◌+◌, ◌-◌, ◌≤◌, ◌<◌}
use native.Mathlib.Nat.{le_refl}
use native.Mathlib.Omega.{arith}
use native.Mathlib.Numerals.{add-one}
use borrow.Author.Tests.{lt-ltb, le-ltb}
use lib.ListN.{length, drop}
use Rattle.theory.specs.Kind.{Kind}
use Rattle.theory.specs.Diagrams.{Branch, Node, Target, at, leaf, node}
use Rattle.theory.specs.Rules.{rules}
use Rattle.theory.specs.WellFormed.{Under}
use Rattle.theory.specs.Walk.{scan, scans, close}
use Rattle.theory.proofs.Ordering.{close_same}
use Rattle.theory.proofs.Scanning.{scan_leaf, scan_known, scan_done, scan_close, close_none, close_other, scans_step, scans_lost, scans_nil}
use Rattle.theory.proofs.WellFormed.{under_weaken}
use Rattle.table_words.specs.Words.{way_of}
use Rattle.table_words.proofs.Reading.{length_nodes_by, at_nodes_by}
use Rattle.table_words.proofs.Tab.{split, tab_none, tab_snoc}
use Rattle.table_words.proofs.Words.{length_sizes}
use Rattle.table_checks.specs.Walk.{Formed, Rooted, Good, Says, Visits, VisitsAll, goal_of, scan_below, shape, shape_arm}
use Rattle.table_checks.proofs.Sitting.{sits_goes, sits_more}
use Rattle.promises.specs.Tab.{tab}
use Rattle.promises.specs.Words.{head, size, count, sizes, feature, body}
use Rattle.promises.specs.Sound.{Sits}

-- ---- where a branch word goes
pub goal_end : (first x : ℕ) → x < first → goal_of first x ≡ leaf 0
unfolding goal_of
goal_end first x h = rw (lt-ltb x first h)

pub goal_node : (first i : ℕ) → goal_of first (first + i) ≡ node i
unfolding goal_of
goal_node first i = rw (le-ltb (first + i) first (omega arith)) (ap (λ (j : ℕ). let t : Target rules = node j in t) (let e : first + i - first ≡ i = omega arith in e))

-- ---- after the branches of node i
says_close : (n d i : ℕ) (o : Option ℕ) → i < n → Says n (Some d) o → d ≡ i → Says n (Some (i + 1)) (close i o)
says_close n d i none h s e = absurd (none-some d (sym s))
says_close n d i (some x) h s e = subst (Says n (Some (i + 1))) (sym (close_same i x (sym (same_Some d x s.0) ∙ e))) (ap (λ (y : ℕ). Some y) (add-one i), omega arith)

says_lost : (n i : ℕ) (r : Answer ℕ) (o : Option ℕ) → Says n r o → (r ≡ Some i → ⊥) → Says n None (close i o)
says_lost n i r none s e = subst (Says n None) (sym (close_none i)) refl
says_lost n i r (some x) s e = subst (Says n None) (sym (close_other i x (λ q. e (s.0 ∙ ap (λ (y : ℕ). Some y) q)))) refl

module _ (first : ℕ) (w : List ℕ) where
  abbrev N : List (Node rules)
  N = shape first w

  -- a word that sits goes where it may
  pub sits_shape : (m k b : ℕ) → m ≤ count w → Sits first w m k b → Under N m k (goal_of first b)
  sits_shape m k b h s = sits_goes (shape_arm first) first (goal_of first) (λ x l. (0, goal_end first x l)) (goal_node first) w m k b h s

  pub sits_good : (m k b : ℕ) → m ≤ count w → Sits first w m k b → Good first w k b
  sits_good m k b h s = under_weaken N m (length N) k k (goal_of first b) (omega (arith, length_nodes_by (shape_arm first) w)) (le_refl _) (sits_shape m k b h s)

  -- ---- a branch
  pub visits_end : {b c : ℕ} → b < first → c ≤ count w → Visits first w b c (Some c)
  visits_end {b} {c} h hc =
      record {
        visits = λ k o. subst (λ (t : Target rules). Says (count w) (Some c) (scan N k (drop k (sizes w)) t c)) (sym (goal_end first b h))
            (subst (Says (count w) (Some c)) (sym (scan_leaf N k (drop k (sizes w)) 0 c)) (refl, hc));
      }

  module _ (f : Formed first w) (b c i : ℕ) (eb : b ≡ first + i) (h : i < count w) where
    goal_is : goal_of first b ≡ node i
    goal_is = ap (goal_of first) eb ∙ goal_node first i

    feature_in : (at N i).feature < length (sizes w)
    feature_in = omega (arith, ap (λ (x : Node rules). x.feature) (at_nodes_by (shape_arm first) w i h), f.known i h, length_sizes w)

    -- from the node's own feature
    from_own : (r : Answer ℕ) → Says (count w) r (scan N (at N i).feature (drop (at N i).feature (sizes w)) (node i) c) → Visits first w b c r
    from_own r s =
        record {
          visits = λ k ok. subst (λ (t : Target rules). Says (count w) r (scan N k (drop k (sizes w)) t c)) (sym goal_is)
              (subst (Says (count w) r) (sym (scan_known (sizes w) N i c k feature_in (subst (Under N (length N) k) goal_is ok))) s);
        }

    pub visits_done : i < c → c ≤ count w → Visits first w b c (Some c)
    visits_done l hc = from_own (Some c) (subst (Says (count w) (Some c)) (sym (scan_done (sizes w) N i c feature_in l)) (refl, hc))

    all_there : {d : Answer ℕ} → VisitsAll first w i c d → Says (count w) d (scans (scan_below first w i) (at N i).branches c)
    all_there {d} v =
        subst (λ (bs : List (Branch rules)). Says (count w) d (scans (scan_below first w i) bs c))
        (sym (ap (λ (x : Node rules). x.branches) (at_nodes_by (shape_arm first) w i h))) v.visits

    pub visits_close : {d : ℕ} → ¬ (i < c) → VisitsAll first w i c (Some d) → d ≡ i → Visits first w b c (Some (i + 1))
    visits_close {d} l v e =
        from_own (Some (i + 1))
        (subst (Says (count w) (Some (i + 1))) (sym (scan_close (sizes w) N i c feature_in l))
        (says_close (count w) d i (scans (scan_below first w i) (at N i).branches c) h (all_there v) e))

    pub visits_lost : {r : Answer ℕ} → ¬ (i < c) → VisitsAll first w i c r → (r ≡ Some i → ⊥) → Visits first w b c None
    visits_lost {r} l v e =
        from_own None
        (subst (Says (count w) None) (sym (scan_close (sizes w) N i c feature_in l))
        (says_lost (count w) i r (scans (scan_below first w i) (at N i).branches c) (all_there v) e))

  -- ---- branch v of node i, said by the word b
  module _ {b : ℕ} (f : Formed first w) (i v : ℕ) (h : i < count w) (hv : v < size w (feature w i)) (e : b ≡ way_of first (body w i) v) where
    sits_there : Sits first w i (feature w i + 1) b
    sits_there = subst (Sits first w i (feature w i + 1)) (sym e) ((f.lower i h).lower v hv)

    -- it sits among all nodes, and its word is below that of the node
    pub sits_branch : (Sits first w (count w) 0 b) × (b < first + i)
    sits_branch = (sits_more w i (count w) (feature w i + 1) 0 b (omega arith) (omega arith) sits_there, sits_there.below)

    pub says_branch : {d : ℕ} {r : Answer ℕ} → Visits first w b d r → Says (count w) r (scan_below first w i (shape_arm first (body w i) v).to d)
    says_branch {d} {r} s =
        subst (λ (x : ℕ). Says (count w) r (scan_below first w i (goal_of first x) d)) e
        (s.visits (suc (at N i).feature) (subst (λ (k : ℕ). Good first w k b)
        (add-one (feature w i) ∙ ap suc (sym (ap (λ (x : Node rules). x.feature) (at_nodes_by (shape_arm first) w i h))))
        (sits_good i (feature w i + 1) b (omega arith) sits_there)))

  -- a branch word below the nodes done ends, or its node is among them
  pub visits_passed : (f : Formed first w) {b c : ℕ} → b < first + c → c ≤ count w → Visits first w b c (Some c)
  visits_passed f {b} {c} l hc =
      ⊎_elim (λ h. visits_end h hc) (λ h. visits_done f b c (b - first) (omega (arith, h)) (omega (arith, h)) (omega (arith, h)) hc) (split b first)

-- ---- branches in turn: the first v are walked from c, and d nodes are done
module _ {K : Kind} where
  pub record Walk (f : Target K → ℕ → Option ℕ) (F : ℕ → Branch K) (n c v d : ℕ) : Type 0 where
    pub walked : scans f (tab F v) c ≡ some d
    pub top : d ≤ n

  pub walk_none : (f : Target K → ℕ → Option ℕ) (F : ℕ → Branch K) (n c : ℕ) → c ≤ n → Walk f F n c 0 c
  walk_none f F n c h = record { walked = rw tab_none (scans_nil f c); top = h }

  module _ {f : Target K → ℕ → Option ℕ} {F : ℕ → Branch K} {n c v d : ℕ} (k : Walk f F n c v d) where
    stepped : scans f (tab F (suc v)) c ≡ f (F v).to d
    stepped = ap (λ (bs : List (Branch K)). scans f bs c) (tab_snoc F v) ∙ scans_step f (tab F v) (F v) c d k.walked

    pub walk_more : (e : ℕ) → Says n (Some e) (f (F v).to d) → Walk f F n c (v + 1) e
    walk_more r s = rw add-one (go (f (F v).to d) stepped s)
      where
        go : (o : Option ℕ) → scans f (tab F (suc v)) c ≡ o → Says n (Some r) o → Walk f F n c (suc v) r
        go none e q = absurd (none-some r (sym q))
        go (some x) e q =
            let z : r ≡ x = same_Some r x q.0 in
            record { walked = e ∙ ap (λ (y : ℕ). let z : Option ℕ = some y in z) (sym z); top = omega (arith, z, q.1) }

    none_more : (m : ℕ) → scans f (tab F (suc v)) c ≡ none → scans f (tab F (suc v + m)) c ≡ none
    none_more zero e = let q : suc v + zero ≡ suc v = omega arith in rw q e
    none_more (suc m) e =
        let q : suc v + suc m ≡ suc (suc v + m) = omega arith in
        rw q (ap (λ (bs : List (Branch K)). scans f bs c) (tab_snoc F (suc v + m)) ∙ scans_lost f (tab F (suc v + m)) (F (suc v + m)) c (none_more m e))

    pub walk_lost : (m : ℕ) → v < m → Says n None (f (F v).to d) → scans f (tab F m) c ≡ none
    walk_lost m hm s = go (f (F v).to d) stepped s
      where
        go : (o : Option ℕ) → scans f (tab F (suc v)) c ≡ o → Says n None o → scans f (tab F m) c ≡ none
        go none e q = let x : suc v + (m - suc v) ≡ m = omega arith in subst (λ (y : ℕ). scans f (tab F y) c ≡ none) x (none_more (m - suc v) e)
        go (some x) e q = absurd (none-some x q.0)

  -- all m of them: the list bs
  pub order_lost : (f : Target K → ℕ → Option ℕ) (F : ℕ → Branch K) (m n : ℕ) (bs : List (Branch K)) → bs ≡ tab F m → scans f (tab F m) 0 ≡ none → scans f bs 0 ≡ some n → ⊥
  order_lost f F m n bs eb e q = let z : ◌≡◌ {A = ℕ} 0 1 = cc in omega arith

module _ {first : ℕ} {w : List ℕ} {i c : ℕ} where
  -- ---- the branches of a node, where the walk is lost
  pub visits_none : scans (scan_below first w i) (tab (shape_arm first (body w i)) (size w (feature w i))) c ≡ none → VisitsAll first w i c None
  visits_none e = record { visits = subst (Says (count w) None) (sym e) refl }

-- ---- the roots: r is the walk from the root of place p, whose word is b
pub says_root : {first n : ℕ} {w : List ℕ} {b d : ℕ} {r : Answer ℕ} → Rooted first n w → (p : ℕ) → p < n → b ≡ head w (32 + p) → Visits first w b d r
    → Says (count w) r (scan (shape first w) 0 (sizes w) (goal_of first (head w (32 + p))) d)
says_root {first} {n} {w} {b} {d} {r} o p h e s =
    subst (λ (x : ℕ). Says (count w) r (scan (shape first w) 0 (sizes w) (goal_of first x) d)) e
    (s.visits 0 (sits_good first w (count w) 0 b (le_refl _) (subst (Sits first w (count w) 0) (sym e) (o.rooted p h))))
