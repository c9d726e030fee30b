-- `visit` and `visit_list` of `table_checks::following` meet their contracts: the branches passed are walked; a branch word is smaller than that of the node which has it. Assumes nothing.
use Rattle.std.proofs.Common.{arith, ◌-◌, sym, ℕ, Some}
use Rattle.std.proofs.lemmas.Option.{none-some, same_Some}
use Rattle.table_checks.specs.Walk.{Visits}
use Rattle.table_checks.proofs.Walking.{visits_end, visits_done, visits_close, visits_lost, visits_passed, visits_none, walk_none, walk_more, walk_lost, sits_branch, says_branch}
use mathlib.Core.Path.{subst}
use Rattle.table_checks.proofs.following.+visit_visit_list.Goals as goal
use Rattle.table_checks.proofs.following.+visit_visit_list.Goals.{visit_list-then-first-d+in_ok-d, visit_list-else-first-d}

pub visit-returns-then-b-first : goal.visit-returns-then-b-first
visit-returns-then-b-first t c = visits_end _ _ c.if-b-first.true c.requires.2

pub visit-returns-then-i-c : goal.visit-returns-then-i-c
visit-returns-then-i-c t c = let p = c.requires in visits_done _ _ p.0 _ _ (c.args.b - c.args.first) (omega arith) (omega (arith, p.1.below)) c.if-i-c.true p.2

pub visit-returns-in_err-d : goal.visit-returns-in_err-d
visit-returns-in_err-d t c =
    let p = c.requires in
    rw c.from_residual.ensures (visits_lost _ _ p.0 _ _ (c.args.b - c.args.first)
    (omega arith) (omega (arith, p.1.below)) (omega arith) c.in_err-d.ensures (none-some _))

pub visit-returns-then-d-i : goal.visit-returns-then-d-i
visit-returns-then-d-i t c =
    let p = c.requires in visits_close _ _ p.0 _ _ (c.args.b - c.args.first)
    (omega arith) (omega (arith, p.1.below)) (omega arith) c.in_ok-d.ensures c.if-d-i.true

pub visit-returns-else-d-i : goal.visit-returns-else-d-i
visit-returns-else-d-i t c =
    let p = c.requires in visits_lost _ _ p.0 _ _ (c.args.b - c.args.first)
    (omega arith) (omega (arith, p.1.below)) (omega arith) c.in_ok-d.ensures (λ q. c.if-d-i.false (same_Some _ _ q))

pub visit_list-loop-v-init : goal.visit_list-loop-v-init
visit_list-loop-v-init t c = walk_none _ _ _ _ c.requires.2

pub visit_list-visit-requires : goal.visit_list-visit-requires
visit_list-visit-requires t c =
    let p = c.requires in let l = c.loop-v in
    let s = sits_branch _ _ p.0 _ l.v p.1 (omega arith) c.way_word-b.ensures in
    (omega (arith, s.1), (p.0, s.0, l.invariant.top))

pub visit_list-returns-in_err-d : goal.visit_list-returns-in_err-d
visit_list-returns-in_err-d t c =
    let p = c.requires in let l = c.loop-v in
    rw c.from_residual.ensures (visits_none (walk_lost l.invariant _ (omega (arith, c.width-v-end.ensures))
    (says_branch _ _ p.0 _ l.v p.1 (omega (arith, c.width-v-end.ensures)) c.way_word-b.ensures c.in_err-d.ensures)))

pub visit_list-loop-v-preserved : goal.visit_list-loop-v-preserved
visit_list-loop-v-preserved t c =
    let p = c.requires in let l = c.loop-v in
    let went : Visits c.args.first c.args.t.now c.way_word-b.result l.d (Some c.if-first-d.d) =
    elim c.if-first-d.branch [
      | visit_list-then-first-d+in_ok-d w ↦ subst (λ (x : ℕ). Visits c.args.first c.args.t.now c.way_word-b.result l.d (Some x)) (sym w.d-is) w.in_ok-d.ensures
      | visit_list-else-first-d w ↦
          subst (λ (x : ℕ). Visits c.args.first c.args.t.now c.way_word-b.result l.d (Some x)) (sym w.d-is) (visits_passed _ _ p.0 (omega (arith, w.if-first-d.false)) l.invariant.top)
    ] in
    walk_more l.invariant _ (says_branch _ _ p.0 _ l.v p.1 (omega (arith, c.width-v-end.ensures)) c.way_word-b.ensures went)
