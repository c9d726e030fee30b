-- Two branches joined: one step, what both add put before, a feature that neither tests, a longer list, all zeros, the end. Assumes nothing.
use mathlib.Core.Path.{◌≡◌, ap, ◌∙◌}
use mathlib.Core.List.{List, ◌∷◌}
use Prim.Native.Nat.{ℕ, suc}
use native.Mathlib.Omega.{arith}
use lib.IntN.{ℤ, pos, ◌+ℤ◌, +ℤ_idl, +ℤ_idr}
use Rattle.theory.specs.Build.{Ext}
use Rattle.theory.specs.Costs.{amount, costs}
use Rattle.theory.specs.Diagrams.{Branch, Node, Target, leaf, next, value}
use Rattle.theory.specs.Functions.{lift}
use Rattle.theory.specs.Settings.{zeros}
use Rattle.theory.specs.WellFormed.{Ok, WellFormed}
use Rattle.theory.proofs.Values.{value_ext, value_next, value_wait, value_zeros}
use Rattle.theory_costs.specs.Relative.{branch_at}
use Rattle.theory_costs.proofs.Adding.{Splits, add_splits, subtract_splits, scale_splits}
use Rattle.theory_costs.proofs.Choosing.{Moves, smaller_moves, larger_moves, onward_sum}
use Rattle.theory_costs.proofs.Integers.{ℕ-eq, sum_ℕ}
use Rattle.theory_costs.proofs.Relative.{value_from, from_end}
use Rattle.theory_costs.proofs.Walks.{Walk}
use Rattle.cost_engine.specs.Joint.{op_of, together, joint, joint_from, ahead, gap}
use Rattle.cost_engine.specs.declared.operators.Operator.{Operator}
use Rattle.cost_engine.specs.declared.operators.Operator.TheVariants.{Add, Subtract, Smaller, Larger, Scale}
use Rattle.promises.specs.Integers.{int}
use Rattle.promises.specs.CostSound.{bare, from}

-- ---- the operator on what two branches add, and what lies below them
splits_split : (F : ℤ → ℤ → ℤ) → Splits F → (a x b y d : ℤ) → F (a +ℤ x) (d +ℤ (b +ℤ y)) ≡ F a b +ℤ F x (d +ℤ y)
splits_split F q a x b y d =
    ap (F (a +ℤ x)) (ℕ-eq (d +ℤ (b +ℤ y)) (b +ℤ (d +ℤ y)) (omega (arith, sum_ℕ b y, sum_ℕ d (b +ℤ y), sum_ℕ d y, sum_ℕ b (d +ℤ y))))
    ∙ q.splits a x b (d +ℤ y)

moves_split : (F : ℤ → ℤ → ℤ) → Moves F → (a x b y d e : ℤ) → d +ℤ (b +ℤ y) ≡ a +ℤ (e +ℤ y) → F (a +ℤ x) (d +ℤ (b +ℤ y)) ≡ a +ℤ F x (e +ℤ y)
moves_split F q a x b y d e h = ap (F (a +ℤ x)) h ∙ q.moves a x (e +ℤ y)

split_op : (o : Operator) (a x b y d : ℤ) → op_of o (a +ℤ x) (d +ℤ (b +ℤ y)) ≡ ahead o a b +ℤ op_of o x (gap o d a b +ℤ y)
split_op Add a x b y d = splits_split (op_of Add) add_splits a x b y d
split_op Subtract a x b y d = splits_split (op_of Subtract) subtract_splits a x b y d
split_op (Scale c) a x b y d = splits_split (op_of (Scale c)) (scale_splits (int c)) a x b y d
split_op Smaller a x b y d = moves_split (op_of Smaller) smaller_moves a x b y d (gap Smaller d a b) (onward_sum d a b y)
split_op Larger a x b y d = moves_split (op_of Larger) larger_moves a x b y d (gap Larger d a b) (onward_sum d a b y)

module _ (o : Operator) (N : List (Node costs)) (k : ℕ) (b c : Branch costs) (d : ℤ) where
  -- with no difference it is the operator of what both mean
  pub joint_none : (s : List ℕ) → joint o N k b c (pos 0) s ≡ together o (value N k b) (value N k c) s
  unfolding joint
  joint_none s = ap (λ (z : ℤ). amount (op_of o (value N k b s).off z)) (+ℤ_idl (value N k c s).off)

  -- what both add is put before the result of their targets
  pub joint_split : (s : List ℕ) → joint o N k b c d s ≡ lift (ahead o b.adds c.adds) (joint_from o N k b.to c.to (gap o d b.adds c.adds) s)
  unfolding joint
  joint_split s =
      ap amount ((λ i. op_of o (value_from N k b s i) (d +ℤ value_from N k c s i))
      ∙ split_op o b.adds (from N k b.to s).off c.adds (from N k c.to s).off d)

  -- one step
  pub joint_step : (v : ℕ) (s : List ℕ) → joint o N k b c d (v ∷ s) ≡ joint o N (suc k) (next N k b v) (next N k c v) d s
  unfolding joint
  joint_step v s = λ i. amount (op_of o (value_next N k b v s i).off (d +ℤ (value_next N k c v s i).off))

  -- neither tests feature k
  pub joint_wait : (v : ℕ) (s : List ℕ) → Ok N (suc k) b → Ok N (suc k) c → joint o N k b c d (v ∷ s) ≡ joint o N (suc k) b c d s
  unfolding joint
  joint_wait v s p q = λ i. amount (op_of o (value_wait N k b v s p i).off (d +ℤ (value_wait N k c v s q i).off))

  -- both may be read in a longer list
  pub joint_ext : (S : List ℕ) (M : List (Node costs)) → WellFormed S N → Ext N M → Ok N k b → Ok N k c → (s : List ℕ) → joint o M k b c d s ≡ joint o N k b c d s
  unfolding joint
  joint_ext S M w e p q s = λ i. amount (op_of o (value_ext S N M k b s w e p i).off (d +ℤ (value_ext S N M k c s w e q i).off))

  -- where all features that are left are 0
  pub joint_zeros : (S : List ℕ) → WellFormed S N → (ns : List ℕ) → Ok N k b → Ok N k c → (joint o N k b c d (zeros ns)).off ≡ op_of o b.adds (d +ℤ c.adds)
  unfolding joint
  joint_zeros S w ns p q = λ i. op_of o (value_zeros S N w k ns b p i) (d +ℤ value_zeros S N w k ns c q i)

-- both have ended
pub joint_end : (o : Operator) (N : List (Node costs)) (k : ℕ) (d : ℤ) (s : List ℕ) → joint_from o N k (leaf tt) (leaf tt) d s ≡ amount (op_of o (pos 0) d)
unfolding joint
joint_end o N k d s = (λ i. amount (op_of o (from_end N k s i).off (d +ℤ (from_end N k s i).off))) ∙ ap (λ (z : ℤ). amount (op_of o (pos 0) z)) (+ℤ_idr d)

-- ---- the walk
pub record State : Type 0 where
  pub first : Target costs
  pub second : Target costs
  pub more : ℤ

abbrev pub walk : Operator → List (Node costs) → Walk
walk o N =
    record {
      State = State;
      run = λ k x. joint_from o N k x.first x.second x.more;
      gives = λ k x v. ahead o (branch_at N k x.first v).adds (branch_at N k x.second v).adds;
      goes =
          λ k x v. record {
            first = (branch_at N k x.first v).to;
            second = (branch_at N k x.second v).to;
            more = gap o x.more (branch_at N k x.first v).adds (branch_at N k x.second v).adds;
          };
      steps =
          λ k x v s. joint_step o N k (bare x.first) (bare x.second) x.more v s
          ∙ joint_split o N (suc k) (branch_at N k x.first v) (branch_at N k x.second v) x.more s;
    }
