-- Tops, and steps down a diagram. Assumes nothing.
use mathlib.Core.Path.{◌≡◌, sym, ap, subst, ◌∙◌}
use mathlib.Core.List.{List}
use Prim.Native.Nat.{ℕ, zero, suc, ◌+◌, ◌-◌, ◌≤◌, ◌<◌}
use native.Mathlib.Numerals.{add-one}
use native.Mathlib.Omega.{arith}
use Rattle.theory.specs.Build.{Ext}
use Rattle.theory.specs.Costs.{costs}
use Rattle.theory.specs.Diagrams.{Node, at}
use Rattle.theory.specs.WellFormed.{Ok}
use Rattle.theory.proofs.WellFormed.{ok_ext}
use Rattle.theory_costs.specs.Relative.{branch_at}
use Rattle.theory_costs.proofs.Relative.{branch_here, branch_wait, branch_under}
use Rattle.table_words.specs.Words.{Kept}
use Rattle.table_words.proofs.Words.{kept_features}
use Rattle.cost_words.proofs.Packing.{target_node, int_zero}
use Rattle.table_words.proofs.Reading.{goal_below}
use Rattle.cost_words.proofs.Reading.{length_nodes, at_nodes, branch_at_lem}
use Rattle.cost_words.proofs.Regular.{regular}
use Rattle.cost_nodes.specs.Nodes.{Holds, Good, top, Place}
use Rattle.promises.specs.CostSound.{bare}
use Rattle.promises.specs.Words.{features, size, sizes, count, feature, body}
use Rattle.promises.specs.CostWords.{target, cost_branch as branch, goes, added, cost_node_list as nodes}

-- a target word of the table is small
pub good_small : (w : List ℕ) (k x : ℕ) → Good w k x → x ≤ count w
good_small w k x g = omega (arith, goal_below regular (nodes w) _ k x g, length_nodes w)

-- ---- tops
pub top_end : (w : List ℕ) (x : ℕ) → x ≡ 0 → top w x ≡ features w
unfolding top
top_end w x e = rw e

pub top_node : (w : List ℕ) (x i : ℕ) → x ≡ suc i → top w x ≡ feature w i
unfolding top
top_node w x i e = rw e

node_feature : (w : List ℕ) (i : ℕ) → i < count w → (at (nodes w) i).feature ≡ feature w i
node_feature w i h = ap (λ (x : Node costs). x.feature) (at_nodes w i h)

-- a target word is good for the features up to its top
pub good_top : (w : List ℕ) (k x : ℕ) → Good w k x → k ≤ features w → k ≤ top w x
unfolding top target
good_top w k zero g h = h
good_top w k (suc i) g h = omega (arith, g.0, g.1, length_nodes w, node_feature w i (omega (arith, g.0, length_nodes w)))

pub top_good : (w : List ℕ) (k x : ℕ) → x ≤ count w → k ≤ top w x → Good w k x
unfolding top target
top_good w k zero s h = tt
top_good w k (suc i) s h = (omega (arith, length_nodes w), omega (arith, node_feature w i (omega arith)))

-- what tests a feature is a node
pub is_node : (w : List ℕ) (x : ℕ) → top w x < features w → 0 < x
unfolding top
is_node w zero h = absurd (omega arith)
is_node w (suc i) h = omega arith

-- the top is a feature, but for the end
pub top_below : (w : List ℕ) (k x : ℕ) → Holds w → Good w k x → 0 < x → top w x < features w
unfolding top
top_below w k zero ok g h = absurd (omega arith)
top_below w k (suc i) ok g h = ok.laid.laid.tests i (good_small w k (suc i) g)

pub top_most : (w : List ℕ) (k x : ℕ) → Holds w → Good w k x → top w x ≤ features w
unfolding top
top_most w k zero ok g = omega arith
top_most w k (suc i) ok g = omega (arith, ok.laid.laid.tests i (good_small w k (suc i) g))

-- ---- branches
-- a node of feature k goes to its branch
pub arm_here : (w : List ℕ) (k x i v : ℕ) → Place w k x → v < size w k → top w x ≡ k → x ≡ suc i → branch (goes (body w i) v) (added (body w i) v) ≡ branch_at (nodes w) k (target x) v
arm_here w k x i v p hv e d =
    let f : feature w i ≡ k = sym (top_node w x i d) ∙ e in
    let s : i < count w = omega (arith, good_small w k x p.good) in
    let z : size w (feature w i) ≡ size w k = ap (size w) f in
    sym (ap (λ t. branch_at (nodes w) k t v) (target_node x i d)
    ∙ branch_here (nodes w) k i v (node_feature w i s ∙ f)
    ∙ branch_at_lem w i v s (omega arith))

-- any other waits
pub arm_skip : (w : List ℕ) (k x v : ℕ) → Place w k x → (top w x ≡ k → ⊥) → branch x 2147483648 ≡ branch_at (nodes w) k (target x) v
arm_skip w k x v p ne =
    (λ j. record { adds = int_zero j; to = target x })
    ∙ sym (branch_wait (nodes w) k (target x) v (top_good w (suc k) x (good_small w k x p.good) (omega (arith, good_top w k x p.good p.up_to, ne))))

-- ---- places
pub place_next : (w : List ℕ) (k x v y a : ℕ) → Place w k x → k < features w → branch y a ≡ branch_at (nodes w) k (target x) v → Place w (k + 1) y
place_next w k x v y a p h e =
    record {
      holds = p.holds;
      good = rw add-one (subst (Ok (nodes w) (suc k)) (sym e) (branch_under (nodes w) k (sizes w) p.holds.wf (target x) v p.good));
      up_to = omega arith;
    }

pub place_skip : (w : List ℕ) (k x : ℕ) → Place w k x → k < top w x → k < features w → Place w (k + 1) x
place_skip w k x p h l = record { holds = p.holds; good = top_good w (k + 1) x (good_small w k x p.good) (omega arith); up_to = omega arith }

-- a place of w, seen in a table that holds more
pub place_ext : (w t : List ℕ) (k x : ℕ) → Place w k x → Kept w t → Holds t → Ext (nodes w) (nodes t) → Place t k x
place_ext w t k x p kp h e =
    record { holds = h; good = ok_ext (nodes w) (nodes t) k (bare (target x)) e p.good; up_to = omega (arith, p.up_to, kept_features w t kp) }

-- ---- features that are passed over
-- what leads from each feature below m to the next, P, and says the same there, f, leads to m
module _ {A : Type 0} (P : ℕ → Type 0) (f : ℕ → A) (m : ℕ) (on : (k : ℕ) → k < m → P k → P (suc k)) (same : (k : ℕ) → k < m → P k → f k ≡ f (suc k)) where
  onwards : (n k : ℕ) → k + n ≡ m → P k → P m × (f k ≡ f m)
  onwards zero k e p = let q : k ≡ m = omega arith in (subst P q p, ap f q)
  onwards (suc n) k e p = let r = onwards n (suc k) (omega arith) (on k (omega arith) p) in (r.0, same k (omega arith) p ∙ r.1)

  pub skipped : (k : ℕ) → k < m → P k → P m × (f k ≡ f m)
  skipped k h p = onwards (m - k) k (omega arith) p
