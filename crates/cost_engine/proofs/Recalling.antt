-- What the engine remembers: a result that `build` gave, right while the table grows. Assumes nothing.
use Rattle.std.specs.Prelude.{Some}
use mathlib.Core.Path.{◌≡◌}
use mathlib.Core.List.{List}
use Prim.Native.Nat.{ℕ, ◌+◌}
use native.Mathlib.Omega.{arith}
use lib.ListN.{drop}
use Rattle.theory.specs.Build.{Ext}
use Rattle.theory.specs.WellFormed.{Mean}
use Rattle.theory.proofs.Values.{mean_more}
use Rattle.theory.proofs.WellFormed.{ok_ext}
use Rattle.table_words.specs.Words.{listed}
use Rattle.table_words.proofs.Words.{kept_sizes}
use Rattle.table_memory.proofs.Building.{mean_said}
use Rattle.cost_nodes.specs.Nodes.{Holds, Good, Result}
use Rattle.cost_words.specs.declared.Arm.{Arm}
use Rattle.cost_nodes.proofs.Filling.{result_ext, result_mean, mean_result}
use Rattle.cost_engine.specs.Joint.{joint_from, Operands}
use Rattle.cost_engine.specs.Memory.{Recalled, Right}
use Rattle.cost_engine.specs.declared.operators.Operator.{Operator}
use Rattle.cost_engine.proofs.Joining.{joint_ext}
use Rattle.promises.specs.Integers.{int}
use Rattle.promises.specs.CostSound.{bare}
use Rattle.promises.specs.Words.{sizes}
use Rattle.promises.specs.CostWords.{target, cost_branch as branch, cost_node_list as nodes}

-- ---- one result
-- in a table that holds more, where its branch means the joint cost of the table before
module _ (w t : List ℕ) (o : Operator) (k x y d z e : ℕ) (ok : Holds w) (q : sizes t ≡ sizes w) (m : Ext (nodes w) (nodes t)) (hx : Good w k x) (hy : Good w k y) where
  grown : Mean (nodes t) k (drop k (sizes w)) (branch z e) (joint_from o (nodes w) k (target x) (target y) (int d)) → Recalled t o k x y d z e
  grown r =
      record {
        first = ok_ext (nodes w) (nodes t) k (bare (target x)) m hx;
        second = ok_ext (nodes w) (nodes t) k (bare (target y)) m hy;
        mean = mean_said q (joint_ext o (nodes w) k (bare (target x)) (bare (target y)) (int d) (sizes w) (nodes t) ok.wf m hx hy) r;
      }

-- what `build` gave may be remembered
pub result_recalled : (w t : List ℕ) (o : Operator) (k x y d : ℕ) (b : Arm) → Operands w o k x y (int d)
    → Result w t k (joint_from o (nodes w) k (target x) (target y) (int d)) (Some b) → Recalled t o k x y d b.to b.adds
result_recalled w t o k x y d b p r =
    grown w t o k x y d b.to b.adds p.holds (kept_sizes w t r.grown.kept p.holds.laid.laid.few) (result_ext w t k _ (Some b) p.holds r) p.first p.second
    (result_mean w t k _ b p.holds r)

-- ---- the memory
-- an entry says one result
pub right_here : (w : List ℕ) (o : Operator) (k : ℕ) (key : List ℕ) (z e : ℕ) → listed key 0 ≡ k + 1 → Recalled w o k (listed key 1) (listed key 2) (listed key 3) z e → Right o w key z e
right_here w o k key z e q c = record { at = λ j h. let n : k ≡ j = omega (arith, q, h) in rw (← n) c }

-- and stays right while nodes are added
pub right_more : (o : Operator) (w t : List ℕ) → Holds w → sizes t ≡ sizes w → Ext (nodes w) (nodes t) → (key : List ℕ) (z e : ℕ) → Right o w key z e → Right o t key z e
right_more o w t ok q m key z e c = record {
  at = λ k h. let r = c.at k h in grown w t o k (listed key 1) (listed key 2) (listed key 3) z e ok q m r.first r.second (mean_more (sizes w) ok.wf m r.mean);
}

-- a hit is the result
pub recalled_result : (w : List ℕ) (o : Operator) (k : ℕ) (key : List ℕ) (z e : ℕ) → Operands w o k (listed key 1) (listed key 2) (int (listed key 3)) → listed key 0 ≡ k + 1 → Right o w key z e →
    Result w w k (joint_from o (nodes w) k (target (listed key 1)) (target (listed key 2)) (int (listed key 3))) (Some (record { to = z; adds = e }))
recalled_result w o k key z e p q r = mean_result w k _ (record { to = z; adds = e }) p.holds (r.at k q).mean
