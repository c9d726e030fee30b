-- `both_choose::rest_result`, `fill_branches` and `branch_result` meet their contracts: the remaining features fall; the first v branches are filled, and the memory is right for
-- the table so far. Assumes nothing.
use Rattle.std.proofs.Common.{arith, ◌≡◌, refl}
use Rattle.std.specs.Prelude.{None, Some}
use Rattle.both_choose.proofs.Recalling.{hit, says_more, result_says}
use Rattle.theory.proofs.Growing.{make_grows}
use Rattle.cost_words.specs.Table.{cost_table}
use Rattle.table_memory.proofs.Building.{noted_result}
use Rattle.table_notes.proofs.Far.{grown_windowed}
use Rattle.both_choose.proofs.Walking.{size_is, skip_most, choices_skip, choice_skip, first_place, second_place, choice_ends, still_left, choice_near, rule_step, choice_held, choices_step, choices_ext, more_fits, more_is, targets, sum_fits, choice_raised, choice_stopped}
use Rattle.cost_nodes.proofs.Filling.{fill_start, fill_more, fill_stop, stop_result, fill_armed, fill_make, filling_ext}
use Rattle.cost_nodes.proofs.Stepping.{good_small}
use Rattle.table_notes.specs.Far.{memory}
use Rattle.table_notes.specs.Plain.{plain}
use Rattle.rule_lending.proofs.Lending.{key_small}
use Rattle.settings.proofs.Answers.{sure_not}
use Rattle.table_words.proofs.Words.{kept_features, kept_size}
use Rattle.promises.specs.Words.{size}
use Rattle.both_choose.proofs.+branch_result_fill_branches_rest_result.Goals as goal

pub branch_result-difference_word-g-requires : goal.branch_result-difference_word-g-requires
branch_result-difference_word-g-requires t c = more_fits _ _ _ _ _ _ _ _ _ c.requires.0 c.sum_word.result c.sum_word.ensures

pub branch_result-rest_result-requires : goal.branch_result-rest_result-requires
branch_result-rest_result-requires t c =
    let p = c.requires in (
      omega arith,
      (
        targets _ _ _ _ _ _ _ _ _ p.0 _ (more_is _ _ _ _ _ _ _ _ _ p.0 _ c.difference_word-g.result
            c.sum_word.ensures c.difference_word-g.ensures),
        p.1,
      ),
    )

pub branch_result-returns-in_err-rest : goal.branch_result-returns-in_err-rest
branch_result-returns-in_err-rest t c =
    let p = c.requires.0 in
    rw c.from_residual.ensures (
      choice_stopped _ _ _ _ _ _ _ _ _ p _ _ (more_is _ _ _ _ _ _ _ _ _ p _ c.difference_word-g.result c.sum_word.ensures c.difference_word-g.ensures)
          c.in_err-rest.ensures.0,
      tt,
    )

pub branch_result-sum_word-requires-2 : goal.branch_result-sum_word-requires-2
branch_result-sum_word-requires-2 t c =
    let p = c.requires.0 in
    sum_fits _ _ _ _ _ _ _ _ _ p _ _ (more_is _ _ _ _ _ _ _ _ _ p _ c.difference_word-g.result c.sum_word.ensures c.difference_word-g.ensures)
    c.in_ok-rest.rest c.in_ok-rest.ensures.0

pub branch_result-returns : goal.branch_result-returns
branch_result-returns t c =
    let p = c.requires.0 in (
      choice_raised _ _ _ _ _ _ _ _ _ p _ _ (more_is _ _ _ _ _ _ _ _ _ p _ c.difference_word-g.result c.sum_word.ensures c.difference_word-g.ensures)
          c.in_ok-rest.rest _ c.in_ok-rest.ensures.0 c.sum_word-2.ensures,
      c.in_ok-rest.ensures.1,
    )

pub fill_branches-loop-v-init : goal.fill_branches-loop-v-init
fill_branches-loop-v-init t c = (fill_start _ c.args.k _ c.requires.0.holds c.requires.2, c.requires.1)

pub fill_branches-branch_at-c-requires : goal.fill_branches-branch_at-c-requires
fill_branches-branch_at-c-requires t c =
    let p = c.requires in
    let q = rule_step _ _ _ _ _ _ _ p.0 c.loop-v.v p.2 (omega (arith, size_is c.args.t.now c.args.k p.0.holds p.2, c.size_word-v-end.ensures)) in
    (p.0.rule, q.0, q.1)

pub fill_branches-arm_in-p-requires : goal.fill_branches-arm_in-p-requires
fill_branches-arm_in-p-requires t c =
    let l = c.loop-v in
    let fl = l.invariant.0 in
    let kp = fl.filled.grown.kept in
    let n = size_is c.args.t.now c.args.k c.requires.0.holds c.requires.2 in (
      first_place _ _ _ _ _ _ _ (choices_ext _ (plain c.args.t.now) c.args.k _ _ _ _ c.requires.0 _ l.v l.arms fl c.requires.2 (omega (arith, n, c.size_word-v-end.ensures))),
      omega (arith, kept_features _ _ kp, c.requires.2),
      omega (arith, kept_size _ _ kp c.requires.0.holds.laid.laid.few c.args.k c.requires.2, n, c.size_word-v-end.ensures),
    )

pub fill_branches-arm_in-q-requires : goal.fill_branches-arm_in-q-requires
fill_branches-arm_in-q-requires t c =
    let l = c.loop-v in
    let fl = l.invariant.0 in
    let kp = fl.filled.grown.kept in
    let n = size_is c.args.t.now c.args.k c.requires.0.holds c.requires.2 in (
      second_place _ _ _ _ _ _ _ (choices_ext _ (plain c.args.t.now) c.args.k _ _ _ _ c.requires.0 _ l.v l.arms fl c.requires.2 (omega (arith, n, c.size_word-v-end.ensures))),
      omega (arith, kept_features _ _ kp, c.requires.2),
      omega (arith, kept_size _ _ kp c.requires.0.holds.laid.laid.few c.args.k c.requires.2, n, c.size_word-v-end.ensures),
    )

pub fill_branches-branch_result-requires : goal.fill_branches-branch_result-requires
fill_branches-branch_result-requires t c =
    let l = c.loop-v in
    let fl = l.invariant.0 in
    let kp = fl.filled.grown.kept in
    let n = size_is c.args.t.now c.args.k c.requires.0.holds c.requires.2 in
    let m = kept_features _ _ kp in
    let hk = c.requires.2 in (
      omega arith,
      (
        choices_step _ _ _ _ _ _ _ (choices_ext _ (plain c.args.t.now) c.args.k _ _ _ _ c.requires.0 _ l.v l.arms fl hk
            (omega (arith, n, c.size_word-v-end.ensures))) l.v _ _ _ _ _ (omega arith) (omega
            (arith, kept_size _ _ kp c.requires.0.holds.laid.laid.few c.args.k hk, n, c.size_word-v-end.ensures)) c.branch_at-c.ensures
            c.arm_in-p.ensures c.arm_in-q.ensures,
        l.invariant.1,
      ),
    )

pub fill_branches-returns-in_err-arms : goal.fill_branches-returns-in_err-arms
fill_branches-returns-in_err-arms t c =
    let l = c.loop-v in
    let fl = l.invariant.0 in
    rw c.from_residual.ensures (
      fill_stop (plain c.args.t.now) c.args.k _ c.requires.0.holds c.requires.2 (plain l.t) _ l.v l.arms _ _ fl
          (omega (arith, size_is c.args.t.now c.args.k c.requires.0.holds c.requires.2, c.size_word-v-end.ensures))
          (choice_held _ (plain c.args.t.now) c.args.k _ _ _ _ c.requires.0 (plain l.t) l.v _ _ _ _ _
          (filling_ext (plain c.args.t.now) c.args.k _ c.requires.0.holds c.requires.2 (plain l.t) l.v l.arms fl)
          c.branch_at-c.ensures c.arm_in-p.ensures c.arm_in-q.ensures)
          c.branch_result.ensures.0 c.in_err-arms.was,
      tt,
    )

pub fill_branches-bounds-arms-v : goal.fill_branches-bounds-arms-v
fill_branches-bounds-arms-v t c =
    omega (
      arith,
      c.requires.0.holds.laid.laid.large c.args.k c.requires.2,
      size_is c.args.t.now c.args.k c.requires.0.holds c.requires.2,
      c.size_word-v-end.ensures,
      c.loop-v.invariant.0.long,
    )

pub fill_branches-loop-v-preserved : goal.fill_branches-loop-v-preserved
fill_branches-loop-v-preserved t c =
    let l = c.loop-v in
    let fl = l.invariant.0 in (
      fill_more (plain c.args.t.now) c.args.k _ c.requires.0.holds c.requires.2 (plain l.t) _ l.v _ l.arms _ _ fl
          (omega (arith, size_is c.args.t.now c.args.k c.requires.0.holds c.requires.2, c.size_word-v-end.ensures))
          (choice_held _ (plain c.args.t.now) c.args.k _ _ _ _ c.requires.0 (plain l.t) l.v _ _ _ _ _
          (filling_ext (plain c.args.t.now) c.args.k _ c.requires.0.holds c.requires.2 (plain l.t) l.v l.arms fl)
          c.branch_at-c.ensures
          c.arm_in-p.ensures
          c.arm_in-q.ensures)
          c.branch_result.ensures.0 c.in_ok-arms.was,
      c.in_ok-arms.ensures.1,
    )

pub fill_branches-returns : goal.fill_branches-returns
fill_branches-returns t c =
    let l = c.loop-v in
    let e : l.v ≡ size (plain c.args.t.now) c.args.k = omega (arith, size_is c.args.t.now c.args.k c.requires.0.holds c.requires.2, c.size_word-v-end.ensures) in
    (rw e at l.invariant.0, l.invariant.1)

pub rest_result-returns-then-is_number : goal.rest_result-returns-then-is_number
rest_result-returns-then-is_number t c =
    (choice_ends _ _ _ _ _ _ _ c.requires.0 _ c.args.d c.number_of.ensures refl _ c.ended.ensures, c.requires.1)

pub rest_result-lowest_of-m-requires : goal.rest_result-lowest_of-m-requires
rest_result-lowest_of-m-requires t c =
    let p = c.requires.0 in
    (record { from = _; lends = p.rule }, p.holds.laid.laid, good_small _ _ _ p.first, good_small _ _ _ p.second)

pub rest_result-rest_result-requires : goal.rest_result-rest_result-requires
rest_result-rest_result-requires t c =
    let p = c.requires in
    let m = skip_most _ _ _ _ _ _ _ c.lowest_of-m.ensures _ p.0 (omega (arith, c.if-k-m)) in
    (omega arith, (choices_skip _ _ _ _ _ _ _ c.lowest_of-m.ensures _ p.0 (omega (arith, c.if-k-m)), p.1))

pub rest_result-returns-then-k-m : goal.rest_result-returns-then-k-m
rest_result-returns-then-k-m t c =
    (choice_skip _ _ _ _ _ _ _ c.lowest_of-m.ensures _ c.requires.0 (omega (arith, c.if-k-m)) _ c.rest_result.result c.rest_result.ensures.0, c.rest_result.ensures.1)

pub rest_result-tag_of-tag-requires : goal.rest_result-tag_of-tag-requires
rest_result-tag_of-tag-requires t c =
    let p = c.requires.0 in
    let hk = still_left _ _ _ _ _ _ _ p (sure_not c.if-is_number.false c.is_number.ensures) in
    (omega (arith, p.holds.laid.laid.few), key_small p.rule)

pub rest_result-returns-in-Some : goal.rest_result-returns-in-Some
rest_result-returns-in-Some t c =
    let p = c.requires in
    let hk = still_left _ _ _ _ _ _ _ p.0 (sure_not c.if-is_number.false c.is_number.ensures) in (
      hit _ _ c.args.k c.args.b (memory c.args.t.now c.args.s.now) _ _ _ _ p.0 (omega (arith, p.0.holds.laid.laid.few)) c.tag_of-tag.ensures refl p.1.right
          c.recall_in.ensures c.in-Some.is,
      p.1,
    )

pub rest_result-fill_branches-requires : goal.rest_result-fill_branches-requires
rest_result-fill_branches-requires t c =
    let p = c.requires in
    let hk = still_left _ _ _ _ _ _ _ p.0 (sure_not c.if-is_number.false c.is_number.ensures) in
    (omega arith, (p.0, p.1, hk))

pub rest_result-returns-in_err-arms : goal.rest_result-returns-in_err-arms
rest_result-returns-in_err-arms t c =
    let p = c.requires.0 in
    let hk = still_left _ _ _ _ _ _ _ p (sure_not c.if-is_number.false c.is_number.ensures) in
    rw c.from_residual.ensures (stop_result _ _ _ p.holds hk _ c.in_err-arms.ensures.0, tt)

pub rest_result-make_in-requires : goal.rest_result-make_in-requires
rest_result-make_in-requires t c =
    let p = c.requires.0 in
    let hk = still_left _ _ _ _ _ _ _ p (sure_not c.if-is_number.false c.is_number.ensures) in
    let fl = c.in_ok-arms.ensures.0 in (
      c.in_ok-arms.ensures.1.room.roomy,
      fl.filled.grown.well,
      omega (arith, kept_features _ _ fl.filled.grown.kept),
      fill_armed _ _ _ p.holds hk _ _ fl (choice_near _ _ _ _ _ _ _ p) p.narrow,
    )

pub rest_result-returns-in_err-a : goal.rest_result-returns-in_err-a
rest_result-returns-in_err-a t c =
    let p = c.requires.0 in
    let hk = still_left _ _ _ _ _ _ _ p (sure_not c.if-is_number.false c.is_number.ensures) in
    rw c.from_residual-in_err-a.ensures (fill_make _ _ _ p.holds hk _ _ _ None c.in_ok-arms.ensures.0 c.in_err-a.ensures.0, tt)

pub rest_result-remember_in-requires : goal.rest_result-remember_in-requires
rest_result-remember_in-requires t c =
    (grown_windowed _ _ c.in_ok-a.ensures.0.grown.kept c.in_ok-a.ensures.1 c.in_ok-arms.ensures.1.room, omega (arith, c.tag_of-tag.ensures))

pub rest_result-returns : goal.rest_result-returns
rest_result-returns t c =
    let p = c.requires.0 in
    let hk = still_left _ _ _ _ _ _ _ p (sure_not c.if-is_number.false c.is_number.ensures) in
    let fl = c.in_ok-arms.ensures.0 in
    let m = c.in_ok-a.ensures in
    let re = fill_make _ _ _ p.holds hk _ _ _ (Some c.in_ok-a.a) fl m.0 in (
      rw c.remember_in.ensures.0 re,
      noted_result cost_table (says_more c.args.r.now) fl.filled.grown.well m.0.grown (make_grows _ _ _) m.1
          c.in_ok-arms.ensures.1 refl c.remember_in.ensures
          (result_says _ _ _ c.args.k c.args.b _ c.in_ok-a.a p (omega (arith, p.holds.laid.laid.few)) c.tag_of-tag.ensures re),
    )
