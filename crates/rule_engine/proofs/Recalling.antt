-- The laws of the memory: what is remembered stays right while the table grows, a hit is what `build` gives, and a result may be remembered. Assumes nothing.
use Rattle.std.specs.Prelude.{Option, Some}
use mathlib.Core.Path.{◌≡◌, sym, ap, subst, ◌∙◌}
use mathlib.Core.List.{List}
use Prim.Native.Nat.{ℕ, ◌+◌, ◌≤◌, ◌<◌}
use native.Mathlib.Omega.{arith}
use lib.ListN.{length, take, drop}
use lib.Seq.{length-take-le, get_or-take, get_or-drop}
use Rattle.theory.specs.Build.{Ext}
use Rattle.theory.specs.Rules.{says, number}
use Rattle.theory.proofs.Rules.{numbers}
use Rattle.theory.specs.WellFormed.{Mean}
use Rattle.theory.proofs.Values.{mean_more, value_ext}
use Rattle.theory.proofs.WellFormed.{ok_ext}
use Rattle.table_words.specs.Words.{listed}
use Rattle.table_words.proofs.Tab.{tab_ext}
use Rattle.table_words.proofs.Words.{kept_sizes}
use Rattle.rule_nodes.specs.Nodes.{Holds, Result, Good}
use Rattle.rule_nodes.proofs.Filling.{result_ext, result_mean, mean_result}
use Rattle.rule_operators.specs.Operators.{op_of}
use Rattle.rule_engine.specs.Joint.{spread, joint, Operands}
use Rattle.table_memory.specs.Memory.{Remembers, Recalls}
use Rattle.table_memory.proofs.Building.{mean_said}
use Rattle.table_memory.proofs.Remembering as M
use Rattle.rule_engine.specs.Memory.{Recalled, Keyed, Right}
use Rattle.promises.specs.Words.{sizes}
use Rattle.promises.specs.RuleWords.{decode, rule_node_list as nodes}

-- ---- the joint rule
-- it reads only the first n operands
joint_like : (w : List ℕ) (o f n k : ℕ) (l r : List ℕ) → ((j : ℕ) → j < n → listed l j ≡ listed r j) → (s : List ℕ) → joint w o f n k l s ≡ joint w o f n k r s
unfolding joint
joint_like w o f n k l r e s = ap (λ (q : List ℕ). says (op_of o q)) (tab_ext _ _ n (λ j h. ap (λ (b : ℕ). number (nodes w) k (decode b) (spread f k j s)) (e j h)))

-- so it is that of the first n words of a longer list
pub joint_taken : (w : List ℕ) (o f n k : ℕ) (l : List ℕ) → n ≤ length l → (s : List ℕ) → joint w o f (length (take n l)) k (take n l) s ≡ joint w o f n k l s
joint_taken w o f n k l h s = rw (length-take-le n l h) (joint_like w o f n k (take n l) l (λ j b. get_or-take n l j 0 b) s)

pub operands_taken : (w : List ℕ) (f n k : ℕ) (l : List ℕ) → n ≤ length l → Operands w f n k l → Operands w f (length (take n l)) k (take n l)
operands_taken w f n k l h p = rw (length-take-le n l h) (record {
  holds = p.holds;
  two = p.two;
  nine = p.nine;
  up_to = p.up_to;
  each = λ j b. rw (get_or-take n l j 0 b) (p.each j b);
  forget = p.forget;
})

-- and is the same of a later table
joint_more : (w t : List ℕ) (o f n k : ℕ) (l : List ℕ) → Holds w → Ext (nodes w) (nodes t) → ((j : ℕ) → j < n → Good w k (listed l j)) → (s : List ℕ) → joint t o f n k l s ≡ joint w o f n k l s
unfolding joint
joint_more w t o f n k l ok e g s =
    ap (λ (q : List ℕ). says (op_of o q))
    (tab_ext _ _ n (λ j h. numbers (value_ext (sizes w) (nodes w) (nodes t) k (decode (listed l j)) (spread f k j s) ok.wf e (g j h))))

-- ---- one result
recalled_like : (w : List ℕ) (o f n k : ℕ) (l r : List ℕ) (x : ℕ) → ((j : ℕ) → j < n → listed l j ≡ listed r j) → Recalled w o f n k l x → Recalled w o f n k r x
recalled_like w o f n k l r x e c = record {
  each = λ j h. subst (λ (b : ℕ). Good w k b) (e j h) (c.each j h);
  good = c.good;
  says = λ s v. c.says s v ∙ joint_like w o f n k l r e s;
}

-- in a table that holds more, where its branch means the joint rule of the table before
module _ (w t : List ℕ) (o f n k : ℕ) (l : List ℕ) (x : ℕ) (ok : Holds w) (z : sizes t ≡ sizes w) (e : Ext (nodes w) (nodes t)) (each : (j : ℕ) → j < n → Good w k (listed l j)) where
  grown : Mean (nodes t) k (drop k (sizes w)) (decode x) (joint w o f n k l) → Recalled t o f n k l x
  grown m =
      let y = mean_said z (joint_more w t o f n k l ok e each) m in
      record { each = λ j h. ok_ext (nodes w) (nodes t) k (decode (listed l j)) e (each j h); good = y.ok; says = y.says }

-- it is what `build` gives
recalled_result : (w : List ℕ) (o f n k : ℕ) (l : List ℕ) (x : ℕ) → Holds w → Recalled w o f n k l x → Result w w k (joint w o f n k l) (Some x)
recalled_result w o f n k l x ok c = mean_result w k (joint w o f n k l) x ok (record { ok = c.good; says = c.says })

-- what `build` gave may be remembered
pub result_recalled : (w t : List ℕ) (o f n k x : ℕ) (l : List ℕ) → Operands w f n k l → Result w t k (joint w o f n k l) (Some x) → Recalled t o f n k l x
result_recalled w t o f n k x l p r =
    grown w t o f n k l x p.holds (kept_sizes w t r.grown.kept p.holds.laid.laid.few) (result_ext w t k (joint w o f n k l) (Some x) p.holds r) p.each
    (result_mean w t k (joint w o f n k l) x p.holds r)

-- ---- the memory
module _ (w : List ℕ) (o f n k : ℕ) (l key : List ℕ) (q : Keyed n k l key) where
  -- an entry says one result
  pub right_here : (x y : ℕ) → Recalled w o f n k l x → Right o f n w key x y
  right_here x y c = record {
    at = λ i g.
        let e : k ≡ i = omega (arith, g, q.feature) in
        rw (← e) (recalled_like w o f n k l (drop 1 key) x (λ j h. sym (get_or-drop 1 key j 0 ∙ q.operand j h)) c);
  }

  -- a hit is the result
  pub hit : (s : List ℕ) (x y : ℕ) (r : Option (ℕ × ℕ)) → Operands w f n k l → Remembers (n + 1) (Right o f n w) s → Recalls s key r → r ≡ Some (x, y) → Result w w k (joint w o f n k l) (Some x)
  hit s x y r p m c e =
      let a : Right o f n w key x y = M.hit key q.long s x y r m c e (omega (arith, q.feature)) in
      recalled_result w o f n k l x p.holds (recalled_like w o f n k (drop 1 key) l x (λ j h. get_or-drop 1 key j 0 ∙ q.operand j h) (a.at k q.feature))

-- what an entry says stays right while nodes are added
pub right_more : (o f n : ℕ) (w t : List ℕ) → Holds w → sizes t ≡ sizes w → Ext (nodes w) (nodes t) → (key : List ℕ) (x y : ℕ) → Right o f n w key x y → Right o f n t key x y
right_more o f n w t ok z e key x y c = record {
  at = λ k h. let r = c.at k h in grown w t o f n k (drop 1 key) x ok z e r.each (mean_more (sizes w) ok.wf e (record { ok = r.good; says = r.says }));
}
