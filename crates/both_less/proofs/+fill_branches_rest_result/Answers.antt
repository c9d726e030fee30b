-- `both_less::rest_result` and `fill_branches` meet their contracts: the remaining features fall; the first v branches are filled, and the memory is right for the rule table so far. Assumes nothing.
use Rattle.std.specs.Prelude.{None, Some}
use Rattle.std.proofs.Common.{List, ◌≡◌, refl, ap, ℕ, ◌<◌, arith, pos, length, get_or, ◌∙◌}
use Rattle.std.specs.Int.Signed.{lt_z}
use lib.ListN.{get_or-replicate}
use Rattle.cost_nodes.specs.Nodes.{top}
use Rattle.cost_nodes.proofs.Stepping.{good_small}
use Rattle.rule_lending.proofs.Building.{filling_ready, fill_start, fill_more, fill_stop, stop_result, fill_listed, fill_make}
use Rattle.table_calls.proofs.Lists.{as_long, as_large}
use Rattle.both_less.proofs.Walking.{beside_grown, bit_small, bit_above, onward_word, still_left, less_equal, skip_left, operands_skip, less_skip, sum_fits, onward_fits, operands_step, less_held}
use Rattle.both_less.proofs.Recalling.{hit, remembers_made, remembers_result}
use Rattle.promises.specs.Integers.{int}
use Rattle.promises.specs.Words.{size}
use Rattle.both_less.proofs.+fill_branches_rest_result.Goals as goal

pub fill_branches-loop-v-init : goal.fill_branches-loop-v-init
fill_branches-loop-v-init t c =
    let n = as_long _ _ c.requires.1.same in
    let e = c.requires.4 in
    (fill_start c.requires.1.ready (omega (arith, n, c.requires.3)) _ (ap length e) (λ u h. ap (λ (l : List ℕ). get_or l u 0) e ∙ get_or-replicate 12 u 0 0 h), c.requires.2)

pub fill_branches-sum_word-requires : goal.fill_branches-sum_word-requires
fill_branches-sum_word-requires t c =
    let hv : c.loop-v.v < size c.args.c.now c.args.k = omega (arith, c.size_word-v-end.ensures) in
    sum_fits _ _ _ _ _ c.requires.0 c.requires.3 c.loop-v.v _ _ _ _ hv c.arm_at-a.ensures c.arm_at-b.ensures

pub fill_branches-difference_word-g-requires : goal.fill_branches-difference_word-g-requires
fill_branches-difference_word-g-requires t c =
    let hv : c.loop-v.v < size c.args.c.now c.args.k = omega (arith, c.size_word-v-end.ensures) in
    onward_fits _ _ _ _ _ c.requires.0 c.requires.3 c.loop-v.v _ _ _ _ hv c.arm_at-a.ensures
    c.arm_at-b.ensures _ c.sum_word.ensures

pub fill_branches-rest_result-requires : goal.fill_branches-rest_result-requires
fill_branches-rest_result-requires t c =
    let l = c.loop-v in
    let hv : l.v < size c.args.c.now c.args.k = omega (arith, c.size_word-v-end.ensures) in
    let g = onward_word _ _ _ _ _ c.sum_word.ensures c.difference_word-g.ensures in (
      omega arith,
      (
        operands_step _ _ _ _ _ c.requires.0 c.requires.3 l.v _ _ _ _ hv c.arm_at-a.ensures
            c.arm_at-b.ensures _ g,
        beside_grown c.requires.1 l.invariant.0,
        l.invariant.1,
      ),
    )

pub fill_branches-returns-in_err-list : goal.fill_branches-returns-in_err-list
fill_branches-returns-in_err-list t c =
    let l = c.loop-v in
    let hv : l.v < size c.args.c.now c.args.k = omega (arith, c.size_word-v-end.ensures) in
    let g = onward_word _ _ _ _ _ c.sum_word.ensures c.difference_word-g.ensures in
    let n = as_long _ _ c.requires.1.same in
    rw c.from_residual.ensures (
      fill_stop c.requires.1.ready (omega (arith, n, c.requires.3)) c.rest_result.result l.invariant.0 (omega (arith, hv, as_large _ _ c.requires.1.same c.args.k (omega (arith, n, c.requires.3)) c.requires.3))
          (less_held _ _ _ _ _ c.requires.0 c.requires.3 l.v _ _ _ _ hv c.arm_at-a.ensures c.arm_at-b.ensures _ g)
          c.rest_result.ensures.0 c.in_err-list.was,
      tt,
    )

pub fill_branches-loop-v-preserved : goal.fill_branches-loop-v-preserved
fill_branches-loop-v-preserved t c =
    let l = c.loop-v in
    let hv : l.v < size c.args.c.now c.args.k = omega (arith, c.size_word-v-end.ensures) in
    let g = onward_word _ _ _ _ _ c.sum_word.ensures c.difference_word-g.ensures in
    let n = as_long _ _ c.requires.1.same in (
      fill_more c.requires.1.ready (omega (arith, n, c.requires.3)) c.rest_result.result l.invariant.0
          (omega (arith, hv, as_large _ _ c.requires.1.same c.args.k (omega (arith, n, c.requires.3)) c.requires.3))
          (less_held _ _ _ _ _ c.requires.0 c.requires.3 l.v _ _ _ _ hv
          c.arm_at-a.ensures
          c.arm_at-b.ensures _ g)
          c.rest_result.ensures.0 c.in_ok-list.was,
      c.in_ok-list.ensures.1,
    )

pub fill_branches-returns : goal.fill_branches-returns
fill_branches-returns t c =
    let l = c.loop-v in
    let n = as_long _ _ c.requires.1.same in
    let e : l.v ≡ size c.args.t.now c.args.k = omega (arith, c.size_word-v-end.ensures, as_large _ _ c.requires.1.same c.args.k (omega (arith, n, c.requires.3)) c.requires.3) in
    (rw e at l.invariant.0, l.invariant.1)

pub rest_result-branch_of-requires : goal.rest_result-branch_of-requires
rest_result-branch_of-requires t c = bit_small (lt_z (pos 0) (int c.args.d)) (bit_above c.args.d c.from.ensures)

pub rest_result-returns-then-x-y : goal.rest_result-returns-then-x-y
rest_result-returns-then-x-y t c =
    (less_equal _ _ _ _ _ c.requires.0 c.requires.1 c.if-x-y.true (bit_above c.args.d c.from.ensures) c.branch_of.ensures, c.requires.2)

pub rest_result-top_of-requires : goal.rest_result-top_of-requires
rest_result-top_of-requires t c = (c.requires.0.holds.laid.laid, good_small _ _ _ c.requires.0.first)

pub rest_result-top_of-requires-then-k-top_of : goal.rest_result-top_of-requires-then-k-top_of
rest_result-top_of-requires-then-k-top_of t c = (c.requires.0.holds.laid.laid, good_small _ _ _ c.requires.0.second)

pub rest_result-rest_result-requires : goal.rest_result-rest_result-requires
rest_result-rest_result-requires t c =
    let hx : c.args.k < top c.args.c.now c.args.x = omega (arith, c.top_of.ensures, c.if-k-top_of) in
    let hy : c.args.k < top c.args.c.now c.args.y = omega (arith, c.top_of-then-k-top_of.ensures, c.if-k-top_of-2) in
    let hk = skip_left _ _ _ _ _ c.requires.0 hx hy in
    (omega arith, (operands_skip _ _ _ _ _ c.requires.0 hx hy, c.requires.1, c.requires.2))

pub rest_result-returns-then-k-top_of-2 : goal.rest_result-returns-then-k-top_of-2
rest_result-returns-then-k-top_of-2 t c =
    let hx : c.args.k < top c.args.c.now c.args.x = omega (arith, c.top_of.ensures, c.if-k-top_of) in
    let hy : c.args.k < top c.args.c.now c.args.y = omega (arith, c.top_of-then-k-top_of.ensures, c.if-k-top_of-2) in
    (less_skip _ _ _ _ _ c.requires.0 hx hy _ _ c.rest_result.result c.requires.1 c.rest_result.ensures.0, c.rest_result.ensures.1)

pub rest_result-returns-in-Some : goal.rest_result-returns-in-Some
rest_result-returns-in-Some t c =
    (hit _ _ c.args.k _ refl refl c.args.s.now _ _ _ c.requires.2 c.recall.ensures c.in-Some.is, c.requires.2)

pub rest_result-fill_branches-requires : goal.rest_result-fill_branches-requires
rest_result-fill_branches-requires t c =
    let hk = still_left _ _ _ _ _ c.requires.0 c.if-x-y.false in
    (omega arith, (c.requires.0, c.requires.1, c.requires.2, hk, refl))

pub rest_result-returns-in_err-fill_branches : goal.rest_result-returns-in_err-fill_branches
rest_result-returns-in_err-fill_branches t c =
    let hk = still_left _ _ _ _ _ c.requires.0 c.if-x-y.false in
    let n = as_long _ _ c.requires.1.same in
    rw c.from_residual.ensures (stop_result c.requires.1.ready (omega arith) (rw c.in_err-fill_branches.was at c.fill_branches.ensures.0), tt)

pub rest_result-make-requires : goal.rest_result-make-requires
rest_result-make-requires t c =
    let hk = still_left _ _ _ _ _ c.requires.0 c.if-x-y.false in
    let n = as_long _ _ c.requires.1.same in
    fill_listed c.requires.1.ready (omega arith) (rw c.in_ok-fill_branches.was at c.fill_branches.ensures.0)

pub rest_result-returns-in_err-z : goal.rest_result-returns-in_err-z
rest_result-returns-in_err-z t c =
    let hk = still_left _ _ _ _ _ c.requires.0 c.if-x-y.false in
    let n = as_long _ _ c.requires.1.same in
    rw c.from_residual-in_err-z.ensures (fill_make c.requires.1.ready (omega arith) None (rw c.in_ok-fill_branches.was at c.fill_branches.ensures.0) c.in_err-z.ensures, tt)

pub rest_result-returns : goal.rest_result-returns
rest_result-returns t c =
    let hk = still_left _ _ _ _ _ c.requires.0 c.if-x-y.false in
    let n = as_long _ _ c.requires.1.same in
    let fl = rw c.in_ok-fill_branches.was at c.fill_branches.ensures.0 in
    let re = fill_make c.requires.1.ready (omega arith) (Some c.in_ok-z.z) fl c.in_ok-z.ensures in (
      re,
      remembers_result _ _ c.args.k _ refl refl _ _ _ _ c.requires.1.ready re
          (remembers_made _ _ _ c.args.k c.fill_branches.new.list (Some c.in_ok-z.z) c.in_ok-z.z _ (filling_ready fl) c.in_ok-z.ensures refl (rw c.in_ok-fill_branches.was at c.fill_branches.ensures.1))
          c.remember.ensures,
    )
