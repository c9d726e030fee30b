-- The walk over several operands: one step, features that no operand tests, the forgotten feature, all operands phrases, a shortcut. Assumes nothing.
use Rattle.std.specs.Prelude.{Option, Some}
use mathlib.Core.Path.{◌≡◌, refl, sym, ap, subst, ◌∙◌}
use mathlib.Core.Logic.{⊎_elim}
use mathlib.Core.List.{List, ◌∷◌}
use Prim.Native.Nat.{ℕ, zero, suc, ◌+◌, ◌-◌, ◌≤◌, ◌<◌}
use native.Mathlib.Numerals.{add-one}
use native.Mathlib.Omega.{arith}
use lib.ListN.{drop, length-drop}
use lib.Seq.{set_out}
use borrow.Author.Tests.{lt-ltb, le-ltb, eq-eqb, ne_eqb}
use Rattle.theory.specs.Build.{Ext}
use Rattle.theory.specs.Diagrams.{next, value}
use Rattle.theory.specs.Functions.{held}
use Rattle.theory.specs.Rules.{Branch, Node, Rule, says, number}
use Rattle.theory.specs.Settings.{Valid}
use Rattle.theory.proofs.Growing.{ext_refl}
use Rattle.theory.proofs.Ranges.{valid_length}
use Rattle.theory.proofs.Rules.{numbers, value_phrase}
use Rattle.theory.proofs.Values.{value_next, value_ext, next_ext, next_ok}
use Rattle.theory.proofs.WellFormed.{ok_ext}
use Rattle.table_words.specs.Words.{listed}
use Rattle.table_words.proofs.Tab.{split, same, tab_ext}
use Rattle.table_words.proofs.Words.{length_sizes, kept_features, kept_size}
use Rattle.rule_words.proofs.Reading.{decode_phrase}
use Rattle.rule_nodes.specs.Nodes.{Result, Good, Place, Filling}
use Rattle.rule_nodes.proofs.Reading.{good_small}
use Rattle.rule_nodes.proofs.Stepping.{top_node, top_good, good_top, child_skip}
use Rattle.rule_nodes.proofs.Filling.{gives_eq, result_there, built_skip, built_there, mean_result, filling_ext}
use Rattle.rule_operators.specs.Operators.{op_of}
use Rattle.rule_engine.specs.Shortcuts.{Standing, Short}
use Rattle.rule_engine.specs.Joint.{spread, turn, joint, Operands, Next, Lowest}
use Rattle.rule_operators.proofs.Operating.{op_any}
use Rattle.promises.specs.Tab.{tab}
use Rattle.promises.specs.Words.{features, sizes}
use Rattle.promises.specs.RuleWords.{decode, rule_node_list as nodes}

-- ---- one step
spread_past : (f k j v : ℕ) (s : List ℕ) → f < k → spread f k j (v ∷ s) ≡ turn f k j v ∷ spread f (k + 1) j s
unfolding spread
spread_past f k j v s l = rw (lt-ltb f k l, lt-ltb f (k + 1) (omega arith), ne_eqb f k (omega arith)) refl

spread_here : (f k j v : ℕ) (s : List ℕ) → f ≡ k → spread f k j (v ∷ s) ≡ turn f k j v ∷ spread f (k + 1) j s
unfolding spread
spread_here f k j v s e =
    let z : f - k ≡ 0 = omega arith in
    rw (le-ltb f k (omega arith), lt-ltb f (k + 1) (omega arith), eq-eqb f k e, z) refl

spread_before : (f k j v : ℕ) (s : List ℕ) → k < f → spread f k j (v ∷ s) ≡ turn f k j v ∷ spread f (k + 1) j s
unfolding spread
spread_before f k j v s l =
    let z : f - k ≡ suc (f - (k + 1)) = omega arith in
    rw (le-ltb f k (omega arith), le-ltb f (k + 1) (omega arith), ne_eqb f k (omega arith), z) refl

-- an operand's setting begins with the value that it goes to
spread_step : (f k j v : ℕ) (s : List ℕ) → spread f k j (v ∷ s) ≡ turn f k j v ∷ spread f (k + 1) j s
spread_step f k j v s = ⊎_elim
    (λ l. spread_past f k j v s l)
    (λ l. ⊎_elim (λ e. spread_here f k j v s e) (λ n. spread_before f k j v s (omega (arith, n))) (same f k))
    (split f k)

value_step : (N : List Node) (k : ℕ) (b : Branch) (v : ℕ) (s : List ℕ) → value N k b (v ∷ s) ≡ value N (k + 1) (next N k b v) s
value_step N k b v s = rw add-one (value_next N k b v s)

-- branch v of the operands' joint rule is the joint rule of the operands' branches, read in any later table
pub joint_held : (w t : List ℕ) (o f n k v : ℕ) (l r : List ℕ) → Operands w f n k l → Ext (nodes w) (nodes t) → Next t f n k v l r → (s : List ℕ) →
    held v (joint w o f n k l) s ≡ joint t o f n (k + 1) r s
unfolding joint
joint_held w t o f n k v l r p e q s = ap (λ (q : List ℕ). says (op_of o q)) (tab_ext _ _ n (λ j h.
    let b = decode (listed l j) in
    let g = p.each j h in
    let u = turn f k j v in
    let d : decode (listed r j) ≡ next (nodes w) k b u = q.each j h ∙ next_ext (nodes w) (nodes t) k b u e g in
    numbers (ap (value (nodes w) k b) (spread_step f k j v s) ∙ value_step (nodes w) k b u (spread f (k + 1) j s)
    ∙ sym (ap (λ (c : Branch). value (nodes t) (k + 1) c (spread f (k + 1) j s)) d
    ∙ value_ext (sizes w) (nodes w) (nodes t) (k + 1) (next (nodes w) k b u) (spread f (k + 1) j s) p.holds.wf e
    (rw add-one (next_ok (sizes w) (nodes w) p.holds.wf k b u g))))))

-- ---- operands
pub operand_place : (w : List ℕ) (f n k : ℕ) (l : List ℕ) (j : ℕ) → Operands w f n k l → j < n → Place w k (listed l j)
operand_place w f n k l j p h = record { holds = p.holds; good = p.each j h; up_to = p.up_to }

-- the operands' branches are operands
pub operands_next : (t : List ℕ) (f n k v : ℕ) (l r : List ℕ) → Operands t f n k l → k < features t → Next t f n k v l r → Operands t f n (k + 1) r
operands_next t f n k v l r p h q = record {
  holds = p.holds;
  two = p.two;
  nine = p.nine;
  up_to = omega arith;
  forget = p.forget;
  each = λ j a. rw (q.each j a, add-one) (next_ok (sizes t) (nodes t) p.holds.wf k (decode (listed l j)) (turn f k j v) (p.each j a));
}

-- operands that do not test feature k wait
operands_skip : (w : List ℕ) (f n k m : ℕ) (l : List ℕ) → Operands w f n k l → Lowest w n l m → k < m → Operands w f n (k + 1) l
operands_skip w f n k m l p q h = record {
  holds = p.holds;
  two = p.two;
  nine = p.nine;
  up_to = omega (arith, q.most);
  forget = p.forget;
  each = λ j a. top_good w (k + 1) (listed l j) (good_small w k (listed l j) (p.each j a)) (omega (arith, q.each j a));
}

-- the lowest feature that they test is none below k; they wait for it
pub lowest_from : (w : List ℕ) (f n k m : ℕ) (l : List ℕ) → Operands w f n k l → Lowest w n l m → k ≤ m
lowest_from w f n k m l p q = q.above k p.up_to (λ j a. good_top w k (listed l j) (p.each j a) p.up_to)

pub operands_jump : (w : List ℕ) (f n k m : ℕ) (l : List ℕ) → Operands w f n k l → Lowest w n l m → Operands w f n m l
operands_jump w f n k m l p q = record {
  holds = p.holds;
  two = p.two;
  nine = p.nine;
  up_to = q.most;
  forget = p.forget;
  each = λ j a. top_good w m (listed l j) (good_small w k (listed l j) (p.each j a)) (q.each j a);
}

-- the operands of w, while the branches of a result are filled
pub operands_ext : (w t : List ℕ) (k : ℕ) (g : Rule) (v : ℕ) (list : List ℕ) (f n : ℕ) (l : List ℕ) → Filling w t k g v list → k < features w → Operands w f n k l → Operands t f n k l
operands_ext w t k g v list f n l fl hk p =
    let kp = fl.filled.grown.kept in
    let e = kept_features w t kp in
    record {
      holds = fl.filled.grown.well;
      two = p.two;
      nine = p.nine;
      up_to = omega (arith, p.up_to);
      each = λ j a. ok_ext (nodes w) (nodes t) k (decode (listed l j)) (filling_ext w k g p.holds hk t v list fl) (p.each j a);
      forget = λ h. let hf : f < features w = omega arith in omega (arith, p.forget hf, kept_size w t kp p.holds.laid.laid.few f hf);
    }

-- ---- results
-- no operand tests feature k
joint_skip : (w t : List ℕ) (o f n k m : ℕ) (l : List ℕ) (a : Option ℕ) → Operands w f n k l → Lowest w n l m → k < m →
    Result w t (k + 1) (joint w o f n (k + 1) l) a → Result w t k (joint w o f n k l) a
joint_skip w t o f n k m l a p q h r =
    let hk : k < features w = omega (arith, q.most) in
    gives_eq (built_skip w k (joint w o f n k l) (joint w o f n (k + 1) l) p.holds hk
    (λ v lt s. joint_held w w o f n k v l l p (ext_refl (nodes w))
    (record { each = λ j b. child_skip w k (listed l j) (turn f k j v) (operand_place w f n k l j p b) (λ e. let z = q.each j b in omega arith) }) s)) r

-- no operand tests a feature below m: from there on, it is the result
jump_by : (w t : List ℕ) (o f n k m : ℕ) (l : List ℕ) (a : Option ℕ) → Operands w f n k l → Lowest w n l m → (d : ℕ) → k + d ≡ m →
    Result w t m (joint w o f n m l) a → Result w t k (joint w o f n k l) a
jump_by w t o f n k m l a p q zero e r = subst (λ (j : ℕ). Result w t j (joint w o f n j l) a) (let z : m ≡ k = omega arith in z) r
jump_by w t o f n k m l a p q (suc d) e r =
    let h : k < m = omega arith in
    joint_skip w t o f n k m l a p q h (jump_by w t o f n (k + 1) m l a (operands_skip w f n k m l p q h) q d (omega arith) r)

pub joint_jump : (w t : List ℕ) (o f n k m : ℕ) (l : List ℕ) (a : Option ℕ) → Operands w f n k l → Lowest w n l m → Result w t m (joint w o f n m l) a → Result w t k (joint w o f n k l) a
joint_jump w t o f n k m l a p q r = let h = lowest_from w f n k m l p q in jump_by w t o f n k m l a p q (m - k) (omega arith) r

-- feature k is forgotten: each operand goes its own way, whatever the value
pub joint_forget : (w t : List ℕ) (o f n k : ℕ) (l r : List ℕ) (a : Option ℕ) → Operands w f n k l → f ≡ k → k < features w → Next w f n k 0 l r →
    Result w t (k + 1) (joint w o f n (k + 1) r) a → Result w t k (joint w o f n k l) a
joint_forget w t o f n k l r a p e hk q y =
    gives_eq (built_skip w k (joint w o f n k l) (joint w o f n (k + 1) r) p.holds hk
    (λ v lt s. joint_held w w o f n k v l r p (ext_refl (nodes w))
    (record { each = λ j b. q.each j b ∙ ap (next (nodes w) k (decode (listed l j))) (rw (eq-eqb f k e) refl) }) s)) y

-- all operands are phrases
phrases : (w : List ℕ) (f n k m : ℕ) (l : List ℕ) → Operands w f n k l → Lowest w n l m → features w ≤ m → (j : ℕ) → j < n → listed l j < 65536
phrases w f n k m l p q h j a = ⊎_elim
    (λ s. s)
    (λ s. let b = good_small w k (listed l j) (p.each j a) in
    absurd (omega (arith, q.each j a, top_node w (listed l j) s, p.holds.laid.laid.tests (listed l j - 65536) (omega arith))))
    (split (listed l j) 65536)

pub joint_phrases : (w : List ℕ) (o f n k m x : ℕ) (l : List ℕ) → Operands w f n k l → Lowest w n l m → features w ≤ m → x ≡ op_of o (tab (listed l) n) →
    Result w w k (joint w o f n k l) (Some x)
unfolding joint
joint_phrases w o f n k m x l p q h e =
    let each = phrases w f n k m l p q h in
    let small : x < 65536 = rw e (op_any (λ b. b < 65536) o n (listed l) (omega arith) (omega arith) (omega arith) each) in
    result_there w k x (joint w o f n k l) p.holds
    (built_there w k x (joint w o f n k l) p.holds (rw (decode_phrase x small) tt)
    (λ s. rw (decode_phrase x small) (value_phrase (nodes w) k x s ∙ ap says (e
    ∙ ap (op_of o) (tab_ext _ _ n (λ j a. sym (numbers (ap (λ (c : Branch). value (nodes w) k c (spread f k j s)) (decode_phrase (listed l j) (each j a))
    ∙ value_phrase (nodes w) k (listed l j) (spread f k j s)))))))))

-- a feature past the last is none: nothing is forgotten
pub spread_none : (w : List ℕ) (f k j : ℕ) (s : List ℕ) → features w ≤ f → k ≤ features w → Valid (drop k (sizes w)) s → spread f k j s ≡ s
unfolding spread
spread_none w f k j s h u v =
    rw (le-ltb f k (omega arith)) (set_out s (f - k) j (omega (arith, valid_length (drop k (sizes w)) s v, length-drop k (sizes w), length_sizes w)))

-- the operator of the words is the result's word
pub joint_short : (w : List ℕ) (o f n k x : ℕ) (l : List ℕ) → Operands w f n k l → Short o f (listed l 0) (listed l 1) → x ≡ op_of o (tab (listed l) n) → Result w w k (joint w o f n k l) (Some x)
unfolding joint
joint_short w o f n k x l p q e = mean_result w k (joint w o f n k l) x p.holds (record { ok = good; says = right })
  where
    phrase_good : (b : ℕ) → b < 65536 → Good w k b
    phrase_good b h = rw (decode_phrase b h) tt

    good : Good w k x
    good = rw e (op_any (λ b. Good w k b) o n (listed l) (phrase_good 0 (omega arith)) (phrase_good 1 (omega arith)) (phrase_good 65535 (omega arith)) p.each)

    right : (s : List ℕ) → Valid (drop k (sizes w)) s → value (nodes w) k (decode x) s ≡ joint w o f n k l s
    right s v =
        let F : ℕ → ℕ = λ b. number (nodes w) k (decode b) s in
        let st : Standing F = record { itself = λ b h. numbers (ap (λ (c : Branch). value (nodes w) k c s) (decode_phrase b h) ∙ value_phrase (nodes w) k b s) } in
        let few : features w ≤ f = omega (arith, q.none, p.holds.laid.laid.few) in
        ap says (ap F e ∙ q.says l refl refl n p.two F st
        ∙ ap (op_of o) (tab_ext _ _ n (λ j h. ap (number (nodes w) k (decode (listed l j))) (sym (spread_none w f k j s few p.up_to v)))))
