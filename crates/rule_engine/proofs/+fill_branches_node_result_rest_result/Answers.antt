-- `rule_engine::rest_result`, `node_result` and `fill_branches` meet their contracts: the remaining features fall; the first v branches are filled, and the memory is right so far. Assumes nothing.
use Rattle.std.proofs.Common.{arith, List, ℕ, ◌+◌, ◌<◌, ◌≡◌, refl, sym, ap, length}
use Rattle.theory.proofs.Growing.{make_grows}
use Rattle.rule_words.specs.Table.{rule_table}
use Rattle.table_memory.proofs.Building.{noted_result}
use Rattle.table_notes.proofs.Far.{grown_windowed}
use Rattle.rule_engine.proofs.Recalling.{right_here, right_more, hit, result_recalled}
use Rattle.rule_engine.proofs.Noting.{plain_features}
use Rattle.rule_engine.proofs.Joining.{joint_held, lowest_from, operands_next, operands_jump, operands_ext, joint_jump, joint_forget, joint_phrases, joint_short}
use Rattle.table_words.proofs.Tab.{tab_of}
use Rattle.table_words.specs.Words.{listed}
use Rattle.promises.specs.Tab.{tab}
use Rattle.rule_operators.specs.Operators.{op_of, number_of, forgotten_by}
use Rattle.rule_engine.specs.Joint.{Operands}
use Rattle.rule_engine.specs.Memory.{Still}
use Rattle.table_notes.specs.Plain.{plain}
use Rattle.table_notes.specs.Far.{memory}
use Rattle.table_notes.proofs.Plain.{length_plain}
use Rattle.rule_notes.proofs.Reading.{plain_head}
use Rattle.rule_nodes.proofs.Filling.{gives_is, gives_none, fill_start, fill_more, fill_stop, stop_result, fill_listed, fill_make, filled, not_filled, filling_ext}
use Rattle.rule_nodes.proofs.Reading.{good_small}
use Rattle.rule_nodes.specs.Nodes.{Filling}
use Rattle.table_words.proofs.Words.{kept_features, kept_size}
use lib.ListN.{get_or-replicate, replicate}
use lib.Seq.{length-take-le}
use mathlib.Core.Path.{subst, ◌∙◌}
use Rattle.promises.specs.Words.{features, size}
use Rattle.rule_engine.proofs.+fill_branches_node_result_rest_result.Goals as goal

-- the number of values of the feature is that without notes
values : (w : List ℕ) (f n k : ℕ) (l : List ℕ) (m : ℕ) → Operands (plain w) f n k l → k < features (plain w) → m ≡ size w k → m ≡ size (plain w) k
values w f n k l m p h e = e ∙ sym (plain_head w (3 + k) (omega (arith, p.holds.laid.laid.few)))

pub fill_branches-size_word-v-end-requires : goal.fill_branches-size_word-v-end-requires
fill_branches-size_word-v-end-requires t c =
    omega (arith, c.requires.0.holds.laid.laid.few, c.requires.2, c.requires.0.holds.laid.laid.room, length_plain c.args.t.now)

pub fill_branches-loop-v-init : goal.fill_branches-loop-v-init
fill_branches-loop-v-init t c = (
  subst (Filling _ _ c.args.k _ 0) (sym c.requires.3) (fill_start _ c.args.k _ c.requires.0.holds c.requires.2 _ refl (λ u h. get_or-replicate 12 u 0 0 h)),
  c.requires.1,
  length-take-le (length c.args.ops.now) (replicate 9 0) c.requires.0.nine,
)

pub fill_branches-operands_at-requires : goal.fill_branches-operands_at-requires
fill_branches-operands_at-requires t c =
    let l = c.loop-v in
    let fl = l.invariant.0 in
    let kp = fl.filled.grown.kept in
    let e = values _ _ _ c.args.k c.args.ops.now _ c.requires.0 c.requires.2 c.size_word-v-end.ensures in (
      operands_ext (plain c.args.t.now) _ c.args.k _ l.v l.list _ _ c.args.ops.now fl c.requires.2 c.requires.0,
      omega (arith, kept_features _ _ kp, c.requires.2),
      omega (arith, kept_size _ _ kp c.requires.0.holds.laid.laid.few c.args.k c.requires.2, e, c.loop-v-test),
      l.invariant.2,
    )

pub fill_branches-rest_result-requires : goal.fill_branches-rest_result-requires
fill_branches-rest_result-requires t c =
    let l = c.loop-v in
    let fl = l.invariant.0 in
    let n = kept_features _ _ fl.filled.grown.kept in
    let hk = c.requires.2 in (
      omega arith,
      rw c.operands_at.ensures.1 (
        operands_next _ _ _ c.args.k l.v c.args.ops.now _ (operands_ext (plain c.args.t.now) _ c.args.k _ l.v l.list _ _ c.args.ops.now fl
            c.requires.2 c.requires.0) (omega arith) c.operands_at.ensures.0,
        l.invariant.1,
      ),
    )

pub fill_branches-returns-in_err-list : goal.fill_branches-returns-in_err-list
fill_branches-returns-in_err-list t c =
    let l = c.loop-v in
    let fl = l.invariant.0 in
    let e = values _ _ _ c.args.k c.args.ops.now _ c.requires.0 c.requires.2 c.size_word-v-end.ensures in
    rw c.from_residual.ensures (
      fill_stop (plain c.args.t.now) c.args.k _ c.requires.0.holds c.requires.2 (plain l.t) _ l.v l.list _ _ fl (omega (arith, e, c.loop-v-test))
          (joint_held (plain c.args.t.now) (plain l.t) (number_of c.args.operator.now) (forgotten_by c.args.operator.now) (length c.args.ops.now) c.args.k l.v c.args.ops.now _ c.requires.0
          (filling_ext (plain c.args.t.now) c.args.k _ c.requires.0.holds c.requires.2 (plain l.t) l.v l.list fl) c.operands_at.ensures.0)
          (rw c.operands_at.ensures.1 at c.rest_result.ensures.0) c.in_err-list.was,
      tt,
    )

pub fill_branches-bounds-list-v : goal.fill_branches-bounds-list-v
fill_branches-bounds-list-v t c =
    let e = values _ _ _ c.args.k c.args.ops.now _ c.requires.0 c.requires.2 c.size_word-v-end.ensures in
    omega (arith, c.requires.0.holds.laid.laid.large c.args.k c.requires.2, e, c.loop-v-test, c.loop-v.invariant.0.long)

pub fill_branches-loop-v-preserved : goal.fill_branches-loop-v-preserved
fill_branches-loop-v-preserved t c =
    let l = c.loop-v in
    let fl = l.invariant.0 in
    let e = values _ _ _ c.args.k c.args.ops.now _ c.requires.0 c.requires.2 c.size_word-v-end.ensures in
    let is = c.in_ok-list.was in (
      fill_more (plain c.args.t.now) c.args.k _ c.requires.0.holds c.requires.2 (plain l.t) _ l.v _ l.list _ _ fl (omega (arith, e, c.loop-v-test))
          (joint_held (plain c.args.t.now) (plain l.t) (number_of c.args.operator.now) (forgotten_by c.args.operator.now) (length c.args.ops.now) c.args.k l.v c.args.ops.now _ c.requires.0
          (filling_ext (plain c.args.t.now) c.args.k _ c.requires.0.holds c.requires.2 (plain l.t) l.v l.list fl) c.operands_at.ensures.0)
          (rw c.operands_at.ensures.1 at c.rest_result.ensures.0) is,
      subst (Still _ _ _ _ _) is (rw c.operands_at.ensures.1 at c.rest_result.ensures.1),
      c.operands_at.ensures.1,
    )

pub fill_branches-returns : goal.fill_branches-returns
fill_branches-returns t c =
    let l = c.loop-v in
    let n = values _ _ _ c.args.k c.args.ops.now _ c.requires.0 c.requires.2 c.size_word-v-end.ensures in
    let e : l.v ≡ size (plain c.args.t.now) c.args.k = omega (arith, n, c.loop-v-test) in
    (rw e at l.invariant.0, l.invariant.1)

pub node_result-forgets-requires : goal.node_result-forgets-requires
node_result-forgets-requires t c = omega (arith, c.requires.0.holds.laid.laid.few, c.requires.2)

pub node_result-operands_at-requires : goal.node_result-operands_at-requires
node_result-operands_at-requires t c = (
  c.requires.0,
  c.requires.2,
  omega (arith, c.requires.0.holds.laid.laid.large c.args.k c.requires.2),
  length-take-le (length c.args.ops.now) (replicate 9 0) c.requires.0.nine,
)

pub node_result-rest_result-requires : goal.node_result-rest_result-requires
node_result-rest_result-requires t c =
    let hk = c.requires.2 in
    (omega arith, rw c.operands_at.ensures.1 (operands_next _ _ _ c.args.k 0 c.args.ops.now _ c.requires.0 hk c.operands_at.ensures.0, c.requires.1))

pub node_result-returns-then-forgets : goal.node_result-returns-then-forgets
node_result-returns-then-forgets t c = (
  joint_forget _ _ _ _ _ c.args.k c.args.ops.now _ _ c.requires.0 (c.forgets.ensures.0 c.if-forgets.true) c.requires.2 c.operands_at.ensures.0
      (rw c.operands_at.ensures.1 at c.rest_result.ensures.0),
  rw c.operands_at.ensures.1 at c.rest_result.ensures.1,
)

pub node_result-key_of-requires : goal.node_result-key_of-requires
node_result-key_of-requires t c = (
  c.requires.0.two,
  c.requires.0.nine,
  omega (arith, c.requires.0.holds.laid.laid.few, c.requires.2),
  length-take-le (length c.args.ops.now + 1) (replicate 10 0) (omega (arith, c.requires.0.nine)),
)

pub node_result-recall_in-requires : goal.node_result-recall_in-requires
node_result-recall_in-requires t c = c.requires.1.room

pub node_result-returns-in-Some : goal.node_result-returns-in-Some
node_result-returns-in-Some t c = (
  hit _ _ _ _ c.args.k c.args.ops.now _ c.key_of.ensures (memory c.args.t.now c.args.s.now) _ _ _ c.requires.0 c.requires.1.right
      c.recall_in.ensures c.in-Some.is,
  c.requires.1,
)

pub node_result-fill_branches-requires : goal.node_result-fill_branches-requires
node_result-fill_branches-requires t c =
    let hk = c.requires.2 in
    (omega arith, (c.requires.0, c.requires.1, hk, refl))

pub node_result-make_in-requires : goal.node_result-make_in-requires
node_result-make_in-requires t c =
    let fl = filled _ _ _ _ _ _ c.in_ok-fill_branches.was c.fill_branches.ensures.0 in (
      (subst (Still _ _ _ _ _) c.in_ok-fill_branches.was c.fill_branches.ensures.1).room.roomy,
      fl.filled.grown.well,
      omega (arith, kept_features _ _ fl.filled.grown.kept, c.requires.2),
      fill_listed _ _ _ c.requires.0.holds c.requires.2 _ _ fl,
    )

pub node_result-returns-in_err-x : goal.node_result-returns-in_err-x
node_result-returns-in_err-x t c =
    let fl = filled _ _ _ _ _ _ c.in_ok-fill_branches.was c.fill_branches.ensures.0 in
    rw c.from_residual-in_err-x.ensures
    (gives_none c.in_err-x.was (fill_make _ _ _ c.requires.0.holds c.requires.2 _ _ _ _ fl c.make_in.ensures.0), tt)

pub node_result-remember_in-requires : goal.node_result-remember_in-requires
node_result-remember_in-requires t c = (
  grown_windowed _ _ c.make_in.ensures.0.grown.kept c.make_in.ensures.1 (subst (Still _ _ _ _ _) c.in_ok-fill_branches.was c.fill_branches.ensures.1).room,
  omega (arith, c.key_of.ensures.feature),
)

pub node_result-returns : goal.node_result-returns
node_result-returns t c =
    let fb = c.fill_branches in
    let m = c.make_in.ensures in
    let fl = filled _ _ _ _ _ _ c.in_ok-fill_branches.was fb.ensures.0 in
    let re = gives_is c.in_ok-x.was (fill_make _ _ _ c.requires.0.holds c.requires.2 _ _ _ _ fl m.0) in
    let y = c.key_of.ensures in (
      rw c.remember_in.ensures.0 re,
      noted_result rule_table (right_more (number_of c.args.operator.now) (forgotten_by c.args.operator.now) (length c.args.ops.now)) fl.filled.grown.well m.0.grown (make_grows _ _ _) m.1
          (subst (Still _ _ _ _ _) c.in_ok-fill_branches.was fb.ensures.1) y.long c.remember_in.ensures
          (right_here _ _ _ _ c.args.k c.args.ops.now _ y _ _ (result_recalled _ _ _ _ _ c.args.k _ c.args.ops.now c.requires.0 re)),
    )

pub node_result-returns-in_err-fill_branches : goal.node_result-returns-in_err-fill_branches
node_result-returns-in_err-fill_branches t c =
    rw c.from_residual.ensures
    (stop_result _ _ _ c.requires.0.holds c.requires.2 _ (not_filled _ _ _ _ _ _ c.in_err-fill_branches.was c.fill_branches.ensures.0), tt)

-- the operator of the operands' words is that of the first words of their list
op_of_list : (o : ℕ) (l : List ℕ) → op_of o l ≡ op_of o (tab (listed l) (length l))
op_of_list o l = ap (op_of o) (sym (tab_of 0 l (length l) refl))

pub rest_result-bounds-ops-0 : goal.rest_result-bounds-ops-0
rest_result-bounds-ops-0 t c = omega (arith, c.requires.0.two)

pub rest_result-bounds-ops-1 : goal.rest_result-bounds-ops-1
rest_result-bounds-ops-1 t c = omega (arith, c.requires.0.two)

pub rest_result-combine-requires : goal.rest_result-combine-requires
rest_result-combine-requires t c = c.requires.0.two

pub rest_result-returns-then-shortcut : goal.rest_result-returns-then-shortcut
rest_result-returns-then-shortcut t c =
    (joint_short _ _ _ _ c.args.k _ c.args.ops.now c.requires.0 (c.shortcut.ensures c.if-shortcut.true) (c.combine.ensures ∙ op_of_list _ c.args.ops.now), c.requires.1)

pub rest_result-lowest-m-requires : goal.rest_result-lowest-m-requires
rest_result-lowest-m-requires t c = (c.requires.0.holds.laid.laid, λ j h. good_small _ _ _ (c.requires.0.each j h))

pub rest_result-features_word-requires : goal.rest_result-features_word-requires
rest_result-features_word-requires t c = omega (arith, c.requires.0.holds.laid.laid.room, length_plain c.args.t.now)

pub rest_result-combine-requires-then-features_word-m : goal.rest_result-combine-requires-then-features_word-m
rest_result-combine-requires-then-features_word-m t c = c.requires.0.two

pub rest_result-returns-then-features_word-m : goal.rest_result-returns-then-features_word-m
rest_result-returns-then-features_word-m t c =
    let e : c.features_word.result ≡ features (plain c.args.t.now) = c.features_word.ensures ∙ plain_features c.args.t.now in (
      joint_phrases _ _ _ _ c.args.k c.lowest-m.result _ c.args.ops.now c.requires.0 c.lowest-m.ensures (omega arith)
          (c.combine-then-features_word-m.ensures ∙ op_of_list _ c.args.ops.now),
      c.requires.1,
    )

pub rest_result-node_result-requires : goal.rest_result-node_result-requires
rest_result-node_result-requires t c =
    let e : c.features_word.result ≡ features (plain c.args.t.now) = c.features_word.ensures ∙ plain_features c.args.t.now in
    let h = lowest_from _ _ _ c.args.k c.lowest-m.result c.args.ops.now c.requires.0 c.lowest-m.ensures in
    (omega arith, (operands_jump _ _ _ c.args.k c.lowest-m.result c.args.ops.now c.requires.0 c.lowest-m.ensures, c.requires.1, omega arith))

pub rest_result-returns : goal.rest_result-returns
rest_result-returns t c = (
  joint_jump _ _ _ _ _ c.args.k c.lowest-m.result c.args.ops.now _ c.requires.0 c.lowest-m.ensures c.node_result.ensures.0,
  c.node_result.ensures.1,
)
