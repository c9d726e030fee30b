-- `cost_engine::rest_result`, `fill_branches` and `branch_result` meet their contracts: the remaining features fall; the first v branches are filled, and the memory is right for
-- the table so far. Assumes nothing.
use Rattle.std.proofs.Common.{◌≡◌, refl, sym, ◌+◌, arith}
use mathlib.Core.Path.{subst, ◌∙◌}
use Rattle.table_words.proofs.Words.{kept_features, kept_size}
use Rattle.table_notes.specs.Plain.{plain}
use Rattle.cost_nodes.proofs.Filling.{gives_is, gives_none, fill_start, fill_more, fill_stop, stop_result, fill_armed, fill_make, filled, not_filled, filling_ext}
use Rattle.cost_nodes.proofs.Stepping.{good_small}
use Rattle.theory.proofs.Growing.{make_grows}
use Rattle.cost_words.specs.Table.{cost_table}
use Rattle.table_memory.proofs.Building.{noted_result}
use Rattle.table_memory.proofs.Remembering.{noted_hit}
use Rattle.table_notes.proofs.Far.{grown_windowed}
use Rattle.cost_notes.proofs.Reading.{plain_head}
use Rattle.cost_engine.specs.Memory.{Still}
use Rattle.cost_engine.proofs.Recalling.{recalled_result, result_recalled, right_here, right_more}
use Rattle.cost_engine.proofs.Walking.{first_place, second_place, operands_more, operands_end, at_gap, still_left, skip_most, operands_skip, joint_skip, operands_step, joint_held, operands_ext, joint_ends, sum_fits, joint_raised, joint_stopped}
use Rattle.promises.specs.Words.{size}
use Rattle.cost_engine.proofs.+branch_result_fill_branches_rest_result.Goals as goal

pub branch_result-gap_word-g-requires : goal.branch_result-gap_word-g-requires
branch_result-gap_word-g-requires t c = operands_more _ _ _ _ _ _ c.requires.0.rest

pub branch_result-returns-in_err-rest : goal.branch_result-returns-in_err-rest
branch_result-returns-in_err-rest t c =
    let r = at_gap (plain c.args.t.now) _ _ _ _ _ _ _ c.rest_result.result c.gap_word-g.ensures c.rest_result.ensures.0 in
    rw c.from_residual.ensures (joint_stopped (plain c.args.t.now) _ _ _ _ _ _ _ c.requires.0 _ (gives_none c.in_err-rest.was r), tt)

pub branch_result-sum_word-requires : goal.branch_result-sum_word-requires
branch_result-sum_word-requires t c =
    let r = at_gap (plain c.args.t.now) _ _ _ _ _ _ _ c.rest_result.result c.gap_word-g.ensures c.rest_result.ensures.0 in
    sum_fits (plain c.args.t.now) _ _ _ _ _ _ _ c.requires.0 _ c.ahead_word.result _ c.ahead_word.ensures (gives_is c.in_ok-rest.was r)

pub branch_result-returns : goal.branch_result-returns
branch_result-returns t c =
    let r = at_gap (plain c.args.t.now) _ _ _ _ _ _ _ c.rest_result.result c.gap_word-g.ensures c.rest_result.ensures.0 in (
      joint_raised (plain c.args.t.now) _ _ _ _ _ _ _ c.requires.0 _ c.ahead_word.result _ _ c.ahead_word.ensures c.sum_word.ensures
          (gives_is c.in_ok-rest.was r),
      subst (Still _ _ _) c.in_ok-rest.was c.rest_result.ensures.1,
    )

pub fill_branches-loop-v-init : goal.fill_branches-loop-v-init
fill_branches-loop-v-init t c =
    let e : c.size_word-m.result ≡ size (plain c.args.t.now) c.args.k = c.size_word-m.ensures
    ∙ sym (plain_head c.args.t.now (3 + c.args.k) (omega (arith, c.requires.0.holds.laid.laid.few, c.requires.2))) in
    (e, fill_start _ c.args.k _ c.requires.0.holds c.requires.2, c.requires.1)

pub fill_branches-arm_in-a-requires : goal.fill_branches-arm_in-a-requires
fill_branches-arm_in-a-requires t c =
    let l = c.loop-v in
    let fl = l.invariant.1 in
    let kp = fl.filled.grown.kept in (
      first_place _ _ _ _ _ _ (operands_ext (plain c.args.t.now) _ c.args.k _ _ _ c.requires.0 _ l.v l.arms fl c.requires.2 (omega (arith, l.invariant.0))),
      omega (arith, kept_features _ _ kp, c.requires.2),
      omega (arith, kept_size _ _ kp c.requires.0.holds.laid.laid.few c.args.k c.requires.2, l.invariant.0),
    )

pub fill_branches-arm_in-b-requires : goal.fill_branches-arm_in-b-requires
fill_branches-arm_in-b-requires t c =
    let l = c.loop-v in
    let fl = l.invariant.1 in
    let kp = fl.filled.grown.kept in (
      second_place _ _ _ _ _ _ (operands_ext (plain c.args.t.now) _ c.args.k _ _ _ c.requires.0 _ l.v l.arms fl c.requires.2 (omega (arith, l.invariant.0))),
      omega (arith, kept_features _ _ kp, c.requires.2),
      omega (arith, kept_size _ _ kp c.requires.0.holds.laid.laid.few c.args.k c.requires.2, l.invariant.0),
    )

pub fill_branches-branch_result-requires : goal.fill_branches-branch_result-requires
fill_branches-branch_result-requires t c =
    let l = c.loop-v in
    let fl = l.invariant.1 in
    let kp = fl.filled.grown.kept in
    let n = kept_features _ _ kp in
    let hk = c.requires.2 in (
      omega arith,
      (
        operands_step _ _ _ _ _ _ (operands_ext (plain c.args.t.now) _ c.args.k _ _ _ c.requires.0 _ l.v l.arms fl hk
            (omega (arith, l.invariant.0))) l.v _ _ _ _ (omega arith) (omega
            (arith, kept_size _ _ kp c.requires.0.holds.laid.laid.few c.args.k hk, l.invariant.0)) c.arm_in-a.ensures
            c.arm_in-b.ensures,
        l.invariant.2,
      ),
    )

pub fill_branches-returns-in_err-c : goal.fill_branches-returns-in_err-c
fill_branches-returns-in_err-c t c =
    let l = c.loop-v in
    let fl = l.invariant.1 in
    rw c.from_residual.ensures (
      fill_stop (plain c.args.t.now) c.args.k _ c.requires.0.holds c.requires.2 (plain l.t) _ l.v l.arms _ _ fl (omega (arith, l.invariant.0))
          (joint_held (plain c.args.t.now) _ c.args.k _ _ _ c.requires.0 (plain l.t) l.v _ _ _ _
          (filling_ext (plain c.args.t.now) c.args.k _ c.requires.0.holds c.requires.2 (plain l.t) l.v l.arms fl) c.arm_in-a.ensures c.arm_in-b.ensures)
          c.branch_result.ensures.0 c.in_err-c.was,
      tt,
    )

pub fill_branches-loop-v-preserved : goal.fill_branches-loop-v-preserved
fill_branches-loop-v-preserved t c =
    let l = c.loop-v in
    let fl = l.invariant.1 in (
      l.invariant.0,
      fill_more (plain c.args.t.now) c.args.k _ c.requires.0.holds c.requires.2 (plain l.t) _ l.v _ l.arms _ _ fl (omega (arith, l.invariant.0))
          (joint_held (plain c.args.t.now) _ c.args.k _ _ _ c.requires.0 (plain l.t) l.v _ _ _ _
          (filling_ext (plain c.args.t.now) c.args.k _ c.requires.0.holds c.requires.2 (plain l.t) l.v l.arms fl) c.arm_in-a.ensures c.arm_in-b.ensures)
          c.branch_result.ensures.0 c.in_ok-c.was,
      subst (Still _ _ _) c.in_ok-c.was c.branch_result.ensures.1,
    )

pub rest_result-overflow_add-x : goal.rest_result-overflow_add-x
rest_result-overflow_add-x t c =
    let d = c.requires.0.holds.laid.laid in
    omega (arith, good_small _ _ _ c.requires.0.first, good_small _ _ _ c.requires.0.second, d.within, d.most)

pub rest_result-end_word-requires : goal.rest_result-end_word-requires
rest_result-end_word-requires t c = operands_end _ _ _ _ _ _ c.requires.0

pub rest_result-returns-then-x-y-eq0 : goal.rest_result-returns-then-x-y-eq0
rest_result-returns-then-x-y-eq0 t c = (joint_ends _ _ _ _ _ _ c.requires.0 _ c.if-x-y-eq0.true c.end_word.ensures, c.requires.1)

pub rest_result-lowest-m-requires : goal.rest_result-lowest-m-requires
rest_result-lowest-m-requires t c = (c.requires.0.holds.laid.laid, good_small _ _ _ c.requires.0.first, good_small _ _ _ c.requires.0.second)

pub rest_result-rest_result-requires : goal.rest_result-rest_result-requires
rest_result-rest_result-requires t c =
    let l = c.lowest-m.ensures in
    let m = skip_most _ _ _ _ _ _ l.0 l.1 _ c.requires.0 (omega arith) in
    (omega arith, (operands_skip _ _ _ _ _ _ l.0 l.1 _ c.requires.0 (omega arith), c.requires.1))

pub rest_result-returns-then-k-m : goal.rest_result-returns-then-k-m
rest_result-returns-then-k-m t c =
    let l = c.lowest-m.ensures in
    (joint_skip _ _ _ _ _ _ l.0 l.1 _ c.requires.0 (omega (arith, c.if-k-m)) _ c.rest_result.result c.rest_result.ensures.0, c.rest_result.ensures.1)

pub rest_result-returns-in-Some : goal.rest_result-returns-in-Some
rest_result-returns-in-Some t c =
    let h = noted_hit c.args.t.now c.args.s.now _ _ _ _ refl c.requires.1 c.recall_in.ensures c.in-Some.is
    (omega arith) in
    (recalled_result _ _ c.args.k _ _ _ c.requires.0 refl h, c.requires.1)

pub rest_result-fill_branches-requires : goal.rest_result-fill_branches-requires
rest_result-fill_branches-requires t c =
    let hk = still_left _ _ _ _ _ _ c.requires.0 c.if-x-y-eq0.false in
    (omega arith, (c.requires.0, c.requires.1, hk))

pub rest_result-returns-in_err-arms : goal.rest_result-returns-in_err-arms
rest_result-returns-in_err-arms t c =
    let hk = still_left _ _ _ _ _ _ c.requires.0 c.if-x-y-eq0.false in
    rw c.from_residual.ensures (stop_result _ _ _ c.requires.0.holds hk _ (not_filled _ _ _ _ _ c.in_err-arms.was c.fill_branches.ensures.0), tt)

pub rest_result-make_in-requires : goal.rest_result-make_in-requires
rest_result-make_in-requires t c =
    let hk = still_left _ _ _ _ _ _ c.requires.0 c.if-x-y-eq0.false in
    let fl = filled _ _ _ _ _ _ c.in_ok-arms.was c.fill_branches.ensures.0 in (
      (subst (Still _ _ _) c.in_ok-arms.was c.fill_branches.ensures.1).room.roomy,
      fl.filled.grown.well,
      omega (arith, kept_features _ _ fl.filled.grown.kept),
      fill_armed _ _ _ c.requires.0.holds hk _ _ fl c.requires.0.bounded.spread c.requires.0.narrow,
    )

pub rest_result-returns-in_err-b : goal.rest_result-returns-in_err-b
rest_result-returns-in_err-b t c =
    let hk = still_left _ _ _ _ _ _ c.requires.0 c.if-x-y-eq0.false in
    let fl = filled _ _ _ _ _ _ c.in_ok-arms.was c.fill_branches.ensures.0 in
    rw c.from_residual-in_err-b.ensures (gives_none c.in_err-b.was (fill_make _ _ _ c.requires.0.holds hk _ _ _ c.make_in.result fl c.make_in.ensures.0), tt)

pub rest_result-remember_in-requires : goal.rest_result-remember_in-requires
rest_result-remember_in-requires t c =
    let r = (subst (Still _ _ _) c.in_ok-arms.was c.fill_branches.ensures.1).room in
    (grown_windowed _ _ c.make_in.ensures.0.grown.kept c.make_in.ensures.1 r, omega arith)

pub rest_result-returns : goal.rest_result-returns
rest_result-returns t c =
    let hk = still_left _ _ _ _ _ _ c.requires.0 c.if-x-y-eq0.false in
    let fl = filled _ _ _ _ _ _ c.in_ok-arms.was c.fill_branches.ensures.0 in
    let m = c.make_in in
    let re = gives_is c.in_ok-b.was (fill_make _ _ _ c.requires.0.holds hk _ _ _ m.result fl m.ensures.0) in (
      rw c.remember_in.ensures.0 re,
      noted_result cost_table (right_more c.args.o) fl.filled.grown.well m.ensures.0.grown (make_grows _ _ _) m.ensures.1
          (subst (Still _ _ _) c.in_ok-arms.was c.fill_branches.ensures.1) refl c.remember_in.ensures
          (right_here _ _ c.args.k _ _ _ refl (result_recalled _ _ _ c.args.k _ _ c.args.d _ c.requires.0 re)),
    )
