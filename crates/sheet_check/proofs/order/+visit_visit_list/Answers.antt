-- `sheet_check::order::visit` and `sheet_check::order::visit_list` meet their contracts: what is left of the branches is the whole walk; a branch word is smaller than that of the
-- node which has it. Assumes nothing.
use Rattle.std.proofs.Common.{arith}
use Rattle.sheet_check.proofs.Walks.{visits_phrase, visits_done, visits_met, visits_other, visits_lost, walked_all, branch_below, walked_more, walked_lost}
use Rattle.sheet_check.proofs.order.+visit_visit_list.Goals.{visit-then-w-lt-NUMBERS-via-then-w-lt-NUMBERS, visit-then-w-lt-NUMBERS-via-else-w-lt-NUMBERS+then-w-c}
use Rattle.sheet_check.proofs.order.+visit_visit_list.Goals as goal

pub visit-returns-then-w-lt-NUMBERS : goal.visit-returns-then-w-lt-NUMBERS
visit-returns-then-w-lt-NUMBERS t c =
    elim c.then-w-lt-NUMBERS.branch [
      | visit-then-w-lt-NUMBERS-via-then-w-lt-NUMBERS w ↦ visits_phrase w.if-w-lt-NUMBERS.true c.requires.1
      | visit-then-w-lt-NUMBERS-via-else-w-lt-NUMBERS+then-w-c w ↦ visits_done c.args.w c.args.c c.args.lawful.now.laid.placed c.requires.0 (omega arith) w.if-w-c.true c.requires.1
    ]

pub visit-returns-in_err-visit_list : goal.visit-returns-in_err-visit_list
visit-returns-in_err-visit_list t c =
    rw c.from_residual.ensures (visits_lost c.args.w c.args.c c.args.lawful.now.laid.placed c.requires.0 (omega arith) (omega arith) c.in_err-visit_list.ensures)

pub visit-returns-then-branch-i : goal.visit-returns-then-branch-i
visit-returns-then-branch-i t c =
    visits_met c.args.w c.args.c c.args.lawful.now.laid.placed c.requires.0 (omega arith) (omega arith) c.in_ok-visit_list.ensures c.if-branch-i.true

pub visit-returns-else-branch-i : goal.visit-returns-else-branch-i
visit-returns-else-branch-i t c =
    visits_other c.args.w c.args.c c.args.lawful.now.laid.placed c.requires.0 (omega arith) (omega arith) c.in_ok-visit_list.ensures c.if-branch-i.false

pub visit_list-visit-requires : goal.visit_list-visit-requires
visit_list-visit-requires t c =
    let b = branch_below c.args.lawful.now.downward c.args.i c.loop-v.v c.requires.0 (omega (arith, c.width-v-end.ensures.0)) c.branch-lawful.ensures.0 in
    (omega (arith, b.1), (b.0, c.loop-v.invariant.small))

pub visit_list-returns-in_err-d : goal.visit_list-returns-in_err-d
visit_list-returns-in_err-d t c =
    rw c.from_residual.ensures (walked_lost c.args.lawful.now.downward c.args.i c.loop-v.v c.requires.0 (omega (arith, c.width-v-end.ensures.0)) c.loop-v.invariant
    c.branch-lawful.ensures.0 c.in_err-d.ensures)

pub visit_list-loop-v-preserved : goal.visit_list-loop-v-preserved
visit_list-loop-v-preserved t c =
    walked_more c.args.lawful.now.downward c.args.i c.loop-v.v c.requires.0 (omega (arith, c.width-v-end.ensures.0)) c.loop-v.invariant c.branch-lawful.ensures.0 c.in_ok-d.ensures

pub visit_list-returns : goal.visit_list-returns
visit_list-returns t c = walked_all c.loop-v.invariant (omega (arith, c.width-v-end.ensures.0))
