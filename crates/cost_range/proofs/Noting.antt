-- The walk on a table that is the same without notes: one result more, a step; and the whole walk at rest. Assumes nothing.
use Rattle.std.specs.Prelude.{Option}
use mathlib.Core.Bool.{Bool}
use mathlib.Core.Path.{◌≡◌, ap, subst, ◌∙◌}
use mathlib.Core.List.{List}
use Prim.Native.Nat.{ℕ, ◌+◌, ◌<◌}
use lib.ListN.{length, drop}
use Rattle.theory.specs.Functions.{held}
use Rattle.theory_costs.specs.Relative.{branch_at}
use Rattle.table_notes.specs.Plain.{Resting, plain}
use Rattle.table_notes.specs.Far.{memory, Windowed}
use Rattle.table_notes.proofs.Plain.{plain_of}
use Rattle.table_memory.specs.Memory.{Stored}
use Rattle.table_memory.proofs.Remembering.{noted_stored}
use Rattle.cost_range.specs.Ends.{Reaches, Pair, of_targets, of_branches, Right, Noted}
use Rattle.cost_words.specs.declared.sides.Span.{Span}
use Rattle.cost_range.proofs.Walking.{pair_step, branches_at}
use Rattle.promises.specs.Words.{features, sizes}
use Rattle.promises.specs.CostWords.{target, cost_branch as branch, cost_node_list as nodes}

-- one result more, right for the table w without notes
pub noted_more : (minus : Bool) (w t t' s s' key : List ℕ) (l h : ℕ) → length key ≡ 4 → plain t ≡ w
    → (plain t' ≡ plain t) × Stored (memory t s) (memory t' s') key l h × Windowed t' → Noted minus t s → Right minus w key l h → Noted minus t' s'
noted_more minus w t t' s s' key l h z f e n q = noted_stored t t' s s' key l h z n e (rw f q)

-- ---- a step on words u that are those without notes, w
pub features_over : {w u : List ℕ} → u ≡ w → features u ≡ features w
features_over e = ap (λ (z : List ℕ). features z) e

module _ {w u : List ℕ} (e : u ≡ w) (k x y : ℕ) (p : Pair w k x y) (hk : k < features w) where
  module _ (v xa a yb b : ℕ) (ea : branch xa a ≡ branch_at (nodes u) k (target x) v) (eb : branch yb b ≡ branch_at (nodes u) k (target y) v) where
    first_arm : branch xa a ≡ branch_at (nodes w) k (target x) v
    first_arm = subst (λ (z : List ℕ). branch xa a ≡ branch_at (nodes z) k (target x) v) e ea

    second_arm : branch yb b ≡ branch_at (nodes w) k (target y) v
    second_arm = subst (λ (z : List ℕ). branch yb b ≡ branch_at (nodes z) k (target y) v) e eb

    pub step_over : Pair u (k + 1) xa yb
    step_over = rw e (pair_step w k x y p v xa a yb b hk first_arm second_arm)

    pub branches_over : (minus : Bool) (r : Option Span) → Reaches (drop (k + 1) (sizes u)) (of_branches minus u (k + 1) xa a yb b) r → Reaches (drop (k + 1) (sizes w)) (held v (of_targets minus w k x y)) r
    branches_over minus r q =
        branches_at w k x y p minus v xa a yb b first_arm second_arm r
        (subst (λ (z : List ℕ). Reaches (drop (k + 1) (sizes z)) (of_branches minus z (k + 1) xa a yb b) r) e q)

-- ---- the whole walk, from a table at rest; t' is the table with the choice of where it remembers
module _ (t t' : List ℕ) (r : Resting t) (q : plain t' ≡ plain t) where
  at_rest : plain t' ≡ t
  at_rest = q ∙ plain_of t r.empty

  pub rest_pair : (x y : ℕ) → Pair t 0 x y → Pair (plain t') 0 x y
  rest_pair x y p = rw at_rest p

  -- the notes are taken away
  pub rest_again : (u v : List ℕ) → plain u ≡ plain t' → v ≡ plain u → v ≡ t
  rest_again u v e f = f ∙ e ∙ at_rest

  pub rest_reaches : (minus : Bool) (x a y b : ℕ) (o : Option Span) → Reaches (drop 0 (sizes (plain t'))) (of_branches minus (plain t') 0 x a y b) o → Reaches (sizes t) (of_branches minus t 0 x a y b) o
  rest_reaches minus x a y b o z = subst (λ (w : List ℕ). Reaches (sizes w) (of_branches minus w 0 x a y b) o) at_rest z
