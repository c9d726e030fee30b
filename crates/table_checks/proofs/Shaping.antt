-- The walk over a table's shape is the walk over its nodes and roots, of whatever kind. Assumes nothing.
use mathlib.Core.Path.{◌≡◌, refl, sym, ap, subst, ◌∙◌}
use mathlib.Core.Logic.{⊎_elim}
use mathlib.Core.List.{List, [], ◌∷◌, ◌++◌}
use Prim.Native.Nat.{ℕ, zero, suc, ◌+◌, ◌-◌, ◌≤◌}
use native.Mathlib.Omega.{arith}
use lib.ListN.{get_or-eq_default}
use Rattle.theory.specs.Kind.{Kind}
use Rattle.theory.specs.Diagrams.{Branch, Node, Target, at, empty, leaf, node}
use Rattle.theory.specs.Rules.{rules}
use Rattle.theory.specs.Walk.{scan, scans}
use Rattle.theory.proofs.Shapes.{SameTo, SameTos, SameShape, scan_shape, scans_shape}
use Rattle.table_words.specs.Table.{Table, Regular, nodes, roots_of}
use Rattle.table_words.specs.Words.{way_of}
use Rattle.table_words.proofs.Reading.{length_nodes_by, at_nodes_by}
use Rattle.table_words.proofs.Tab.{split, tab_none, tab_snoc}
use Rattle.table_checks.specs.Walk.{goal_of, going_to, shape, shape_arm, shape_roots}
use Rattle.table_checks.proofs.Walking.{goal_end, goal_node}
use Rattle.promises.specs.Tab.{tab}
use Rattle.promises.specs.Words.{head, size, count, sizes, feature, body}

-- lists of branches that go to the same, one by one
module _ {K M : Kind} where
  same_more : (bs : List (Branch K)) (cs : List (Branch M)) (b : Branch K) (c : Branch M) → SameTos bs cs → SameTo b.to c.to → SameTos (bs ++ (b ∷ [])) (cs ++ (c ∷ []))
  same_more [] [] b c s o = (o, tt)
  same_more [] (y ∷ cs) b c s o = absurd s
  same_more (x ∷ bs) [] b c s o = absurd s
  same_more (x ∷ bs) (y ∷ cs) b c s o = (s.0, same_more bs cs b c s.1 o)

  same_tab : (F : ℕ → Branch K) (G : ℕ → Branch M) (n : ℕ) → ((v : ℕ) → SameTo (F v).to (G v).to) → SameTos (tab F n) (tab G n)
  same_tab F G zero e = rw (tab_none F, tab_none G) tt
  same_tab F G (suc n) e = rw (tab_snoc F n, tab_snoc G n) (same_more (tab F n) (tab G n) (F n) (G n) (same_tab F G n e) (e n))

module _ {K : Kind} {T : Table K} (L : Regular T) (ways : (f : ℕ → ℕ) (v : ℕ) → T.word f v ≡ way_of T.first f v) (w : List ℕ) where
  -- a branch word goes to the same in both
  same_goal : (x : ℕ) → SameTo (T.goal x) (goal_of T.first x)
  same_goal x = ⊎_elim
      (λ h. let e = L.ends x h in
      subst (λ (t : Target K). SameTo t (goal_of T.first x)) (sym e.1) (subst (λ (u : Target rules). SameTo {K = K} (leaf e.0) u) (sym (goal_end T.first x h)) tt))
      (λ h.
      let i : ℕ = x - T.first in
      let q : T.first + i ≡ x = omega arith in
      subst (λ (y : ℕ). SameTo (T.goal y) (goal_of T.first y)) q
      (subst (λ (t : Target K). SameTo t (goal_of T.first (T.first + i))) (sym (L.indices i))
      (subst (λ (u : Target rules). SameTo {K = K} (node i) u) (sym (goal_node T.first i)) refl)))
      (split x T.first)

  same_arm : (f : ℕ → ℕ) (v : ℕ) → SameTo (T.arm f v).to (shape_arm T.first f v).to
  same_arm f v =
      subst (λ (t : Target K). SameTo t (goal_of T.first (way_of T.first f v))) (sym (L.arms f v))
      (subst (λ (x : ℕ). SameTo (T.goal (T.word f v)) (goal_of T.first x)) (ways f v) (same_goal (T.word f v)))

  same_nodes : SameShape (nodes T w) (shape T.first w)
  same_nodes =
      record {
        features = λ i. ⊎_elim
            (λ h. ap (λ (x : Node K). x.feature) (at_nodes_by T.arm w i h) ∙ sym (ap (λ (x : Node rules). x.feature) (at_nodes_by (shape_arm T.first) w i h)))
            (λ h. ap (λ (x : Node K). x.feature) (gone i h) ∙ sym (ap (λ (x : Node rules). x.feature) (gone_shape i h)))
            (split i (count w));
        branches = λ i. ⊎_elim
            (λ h. subst (λ (x : Node K). SameTos x.branches (at (shape T.first w) i).branches) (sym (at_nodes_by T.arm w i h))
            (subst (λ (y : Node rules). SameTos (tab (T.arm (body w i)) (size w (feature w i))) y.branches) (sym (at_nodes_by (shape_arm T.first) w i h))
            (same_tab (T.arm (body w i)) (shape_arm T.first (body w i)) (size w (feature w i)) (same_arm (body w i)))))
            (λ h. subst (λ (x : Node K). SameTos x.branches (at (shape T.first w) i).branches) (sym (gone i h))
            (subst (λ (y : Node rules). SameTos {K = K} [] y.branches) (sym (gone_shape i h)) tt))
            (split i (count w));
      }
    where
      gone : (i : ℕ) → count w ≤ i → at (nodes T w) i ≡ empty
      gone i h = get_or-eq_default (nodes T w) empty (omega (arith, length_nodes_by T.arm w))

      gone_shape : (i : ℕ) → count w ≤ i → at (shape T.first w) i ≡ empty
      gone_shape i h = get_or-eq_default (shape T.first w) empty (omega (arith, length_nodes_by (shape_arm T.first) w))

  -- THEOREM
  pub order_shape : scans (scan (nodes T w) 0 (sizes w)) (roots_of T w) 0 ≡ scans (scan (shape T.first w) 0 (sizes w)) (shape_roots T.first T.places w) 0
  order_shape =
      scans_shape (scan (nodes T w) 0 (sizes w)) (scan (shape T.first w) 0 (sizes w)) (λ t u o d. scan_shape same_nodes 0 (sizes w) t u o d)
      (roots_of T w) (shape_roots T.first T.places w)
      (same_tab (T.root_at w) (λ p. going_to T.first (head w (32 + p))) T.places
      (λ p. subst (λ (t : Target K). SameTo t (goal_of T.first (head w (32 + p)))) (sym (L.tops w p)) (same_goal (head w (32 + p)))))
      0
