-- The memory of the walk: what is remembered stays right while the cost table grows, a hit is what `build` gives, and a result may be remembered. Assumes nothing.
use mathlib.Core.Path.{◌≡◌}
use mathlib.Core.List.{List}
use Prim.Native.Nat.{ℕ, ◌<◌}
use native.Mathlib.Omega.{arith}
use lib.ListN.{length, drop}
use Rattle.theory.specs.Build.{Ext}
use Rattle.theory.specs.WellFormed.{Mean}
use Rattle.theory.proofs.Values.{mean_more}
use Rattle.theory.proofs.WellFormed.{ok_ext}
use Rattle.table_words.specs.Words.{listed}
use Rattle.table_words.proofs.Words.{kept_sizes}
use Rattle.table_memory.specs.Memory.{Remembers, Recalls}
use Rattle.table_memory.proofs.Building.{mean_said}
use Rattle.table_memory.proofs.Remembering as M
use Rattle.rule_lending.specs.Lending.{lent}
use Rattle.rule_lending.proofs.Lending.{key_one}
use Rattle.cost_nodes.specs.Nodes.{Holds, Good, Result}
use Rattle.std.specs.Prelude.{Option, Some}
use Rattle.cost_words.specs.declared.Arm.{Arm}
use Rattle.cost_nodes.proofs.Filling.{result_ext, result_mean, mean_result}
use Rattle.both_choose.specs.Choice.{choice, Choices}
use Rattle.both_choose.specs.Memory.{Recalled, tag_of, Says}
use Rattle.both_choose.proofs.Choices.{choice_ext}
use Rattle.promises.specs.Integers.{int}
use Rattle.promises.specs.CostSound.{bare}
use Rattle.promises.specs.Words.{sizes}
use Rattle.promises.specs.CostWords.{target, cost_branch as branch, cost_node_list as nodes}

-- ---- one result, in a table that holds more
module _ (v w t : List ℕ) (k b x y d z e : ℕ) (ok : Holds w) (q : sizes t ≡ sizes w) (m : Ext (nodes w) (nodes t)) (hx : Good w k x) (hy : Good w k y) where
  grown : Mean (nodes t) k (drop k (sizes w)) (branch z e) (choice (lent v k b) (nodes w) k (target x) (target y) (int d)) → Recalled v t k b x y d z e
  grown r =
      record {
        first = ok_ext (nodes w) (nodes t) k (bare (target x)) m hx;
        second = ok_ext (nodes w) (nodes t) k (bare (target y)) m hy;
        mean = mean_said q (choice_ext (lent v k b) (nodes w) k (target x) (target y) (int d) (sizes w) (nodes t) ok.wf m hx hy) r;
      }

-- what `build` gave may be remembered
result_recalled : (v w t : List ℕ) (k b x y d : ℕ) (a : Arm) → Choices v w k b x y (int d)
    → Result w t k (choice (lent v k b) (nodes w) k (target x) (target y) (int d)) (Some a) → Recalled v t k b x y d a.to a.adds
result_recalled v w t k b x y d a p r =
    grown v w t k b x y d a.to a.adds p.holds (kept_sizes w t r.grown.kept p.holds.laid.laid.few) (result_ext w t k _ (Some a) p.holds r) p.first p.second
    (result_mean w t k _ a p.holds r)

-- ---- the memory
-- a tag tells its feature and its branch
says_tag : (v w : List ℕ) (k b : ℕ) (key : List ℕ) (z e : ℕ) → k < 16 → listed key 0 ≡ tag_of k b → Recalled v w k b (listed key 1) (listed key 2) (listed key 3) z e → Says v w key z e
says_tag v w k b key z e h g c = record { recalled = go }
  where
    go : (k' b' : ℕ) → k' < 16 → listed key 0 ≡ tag_of k' b' → Recalled v w k' b' (listed key 1) (listed key 2) (listed key 3) z e
    go k' b' h' g' =
        let ek : k ≡ k' = omega arith in
        let eb : b ≡ b' = key_one b b' (omega arith) in
        rw (← ek, ← eb) c

-- what an entry says stays right while nodes are added
pub says_more : (v w t : List ℕ) → Holds w → sizes t ≡ sizes w → Ext (nodes w) (nodes t) → (key : List ℕ) (z e : ℕ) → Says v w key z e → Says v t key z e
says_more v w t ok q m key z e c = record {
  recalled = λ k b h g.
      let r = c.recalled k b h g in grown v w t k b (listed key 1) (listed key 2) (listed key 3) z e ok q m r.first r.second (mean_more (sizes w) ok.wf m r.mean);
}

-- a hit is the result
pub hit : (v w : List ℕ) (k b : ℕ) (s key : List ℕ) (z e : ℕ) (r : Option (ℕ × ℕ)) → Choices v w k b (listed key 1) (listed key 2) (int (listed key 3)) → k < 16 → listed key 0 ≡ tag_of k b
    → length key ≡ 4 → Remembers 4 (Says v w) s → Recalls s key r → r ≡ Some (z, e)
    → Result w w k (choice (lent v k b) (nodes w) k (target (listed key 1)) (target (listed key 2)) (int (listed key 3))) (Some (record { to = z; adds = e }))
hit v w k b s key z e r p h g l m c q =
    let f : Says v w key z e = M.hit key l s z e r m c q (omega (arith, g)) in
    mean_result w k _ (record { to = z; adds = e }) p.holds (f.recalled k b h g).mean

-- a result may be remembered
pub result_says : (v w t : List ℕ) (k b : ℕ) (key : List ℕ) (a : Arm) → Choices v w k b (listed key 1) (listed key 2) (int (listed key 3)) → k < 16 → listed key 0 ≡ tag_of k b
    → Result w t k (choice (lent v k b) (nodes w) k (target (listed key 1)) (target (listed key 2)) (int (listed key 3))) (Some a) → Says v t key a.to a.adds
result_says v w t k b key a p h g r = says_tag v t k b key a.to a.adds h g (result_recalled v w t k b (listed key 1) (listed key 2) (listed key 3) a p r)
