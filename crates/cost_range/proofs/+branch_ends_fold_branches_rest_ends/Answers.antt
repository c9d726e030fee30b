-- `cost_range::rest_ends`, `fold_branches` and `branch_ends` meet their contracts: the remaining features fall; the values passed are folded, and the memory stays right. Assumes nothing.
use Rattle.std.proofs.Common.{refl, sym, arith, Some, None}
use mathlib.Core.Path.{◌∙◌}
use Rattle.cost_notes.proofs.Reading.{plain_head}
use Rattle.cost_nodes.proofs.Stepping.{good_small}
use Rattle.cost_range.proofs.Ending.{ends_are, ends_lost, folds_more}
use Rattle.cost_range.proofs.Noting.{noted_more, features_over, step_over, branches_over}
use Rattle.table_memory.proofs.Remembering.{noted_hit}
use Rattle.cost_range.proofs.Walking.{pair_left, pair_from_lem, pair_jump, all_folded, one_lost, reaches_jump, base_lost, rest_lost, low_lost, high_lost, both_stand, right_here}
use Rattle.cost_range.proofs.Meeting.{first_ended, second_ended}
use Rattle.cost_range.proofs.+branch_ends_fold_branches_rest_ends.Goals as goal
use Rattle.cost_range.proofs.+branch_ends_fold_branches_rest_ends.Goals.{rest_ends-then-x-eq0-via-then-x-eq0, rest_ends-then-x-eq0-via-else-x-eq0+then-y-eq0}

pub branch_ends-returns-in_err-base : goal.branch_ends-returns-in_err-base
branch_ends-returns-in_err-base t c =
    rw c.from_residual.ensures (base_lost _ _ _ c.args.a.adds _ c.args.b.adds c.requires.0 c.args.minus c.in_err-base.ensures, refl, c.requires.1)

pub branch_ends-returns-in_err-rest : goal.branch_ends-returns-in_err-rest
branch_ends-returns-in_err-rest t c =
    let z = c.rest_ends in
    rw c.from_residual-in_err-rest.ensures
    (rest_lost _ _ _ c.args.a.adds _ c.args.b.adds c.requires.0 c.args.minus (ends_lost z.result c.in_err-rest.was z.ensures.0), z.ensures.1, z.ensures.2)

pub branch_ends-returns-in_err-low : goal.branch_ends-returns-in_err-low
branch_ends-returns-in_err-low t c =
    let z = c.rest_ends in
    let q = ends_are z.result c.in_ok-rest.was z.ensures.0 in
    rw c.from_residual-in_err-low.ensures
    (low_lost _ _ _ c.args.a.adds _ c.args.b.adds c.requires.0 c.args.minus _ c.in_ok-rest.rest c.in_ok-base.ensures.1 q c.in_err-low.ensures, z.ensures.1, z.ensures.2)

pub branch_ends-returns-in_err-high : goal.branch_ends-returns-in_err-high
branch_ends-returns-in_err-high t c =
    let z = c.rest_ends in
    let q = ends_are z.result c.in_ok-rest.was z.ensures.0 in
    rw c.from_residual-in_err-high.ensures
    (high_lost _ _ _ c.args.a.adds _ c.args.b.adds c.requires.0 c.args.minus _ c.in_ok-rest.rest c.in_ok-base.ensures.1 q c.in_err-high.ensures, z.ensures.1, z.ensures.2)

pub branch_ends-returns : goal.branch_ends-returns
branch_ends-returns t c =
    let z = c.rest_ends in
    let q = ends_are z.result c.in_ok-rest.was z.ensures.0 in
    (both_stand _ _ _ c.args.a.adds _ c.args.b.adds c.requires.0 c.args.minus _ c.in_ok-rest.rest c.in_ok-base.ensures.1 q _ _ c.in_ok-low.ensures.1 c.in_ok-high.ensures.1, z.ensures.1, z.ensures.2)

pub fold_branches-loop-v-init : goal.fold_branches-loop-v-init
fold_branches-loop-v-init t c = (
  c.size_word-m.ensures ∙ sym (plain_head _ _ (omega (arith, c.requires.2, c.requires.0.holds.laid.laid.few))),
  refl,
  refl,
  c.requires.1,
)

pub fold_branches-branch_ends-requires : goal.fold_branches-branch_ends-requires
fold_branches-branch_ends-requires t c =
    let l = c.loop-v in (
      omega (arith, c.requires.2, features_over l.invariant.2),
      (
        step_over l.invariant.2 _ _ _ c.requires.0 c.requires.2 l.v _ _ _ _
            c.arm_in-a.ensures c.arm_in-b.ensures,
        l.invariant.3,
      ),
    )

pub fold_branches-returns-in_err-c : goal.fold_branches-returns-in_err-c
fold_branches-returns-in_err-c t c =
    let l = c.loop-v in
    let z = c.branch_ends in
    let q = ends_lost z.result c.in_err-c.was z.ensures.0 in
    rw c.from_residual.ensures (
      one_lost _ _ _ _ c.requires.0 c.args.minus c.requires.2 l.v (omega (arith, l.invariant.0))
          (branches_over l.invariant.2 _ _ _ c.requires.0 c.requires.2 l.v _ _ _ _ c.arm_in-a.ensures c.arm_in-b.ensures c.args.minus None q),
      z.ensures.1 ∙ l.invariant.2,
      z.ensures.2,
    )

pub fold_branches-loop-v-preserved : goal.fold_branches-loop-v-preserved
fold_branches-loop-v-preserved t c =
    let l = c.loop-v in
    let z = c.branch_ends in
    let q = branches_over l.invariant.2 _ _ _ c.requires.0 c.requires.2 l.v _ _ _ _ c.arm_in-a.ensures c.arm_in-b.ensures c.args.minus (Some c.in_ok-c.c)
    (ends_are z.result c.in_ok-c.was z.ensures.0) in
    (l.invariant.0, folds_more _ _ l.v l.ends _ _ l.invariant.1 q c.furthest.ensures, z.ensures.1 ∙ l.invariant.2, z.ensures.2)

pub fold_branches-returns : goal.fold_branches-returns
fold_branches-returns t c =
    let l = c.loop-v in
    (all_folded _ _ _ _ c.requires.0 c.args.minus c.requires.2 l.v l.ends (omega (arith, l.invariant.0)) l.invariant.1, l.invariant.2, l.invariant.3)

pub rest_ends-kept_in-requires : goal.rest_ends-kept_in-requires
rest_ends-kept_in-requires t c = let p = c.requires.0 in (p.holds.laid.laid, good_small _ _ _ p.first)

pub rest_ends-kept_in-requires-then-x-eq0 : goal.rest_ends-kept_in-requires-then-x-eq0
rest_ends-kept_in-requires-then-x-eq0 t c = let p = c.requires.0 in (p.holds.laid.laid, good_small _ _ _ p.second)

pub rest_ends-returns-then-x-eq0 : goal.rest_ends-returns-then-x-eq0
rest_ends-returns-then-x-eq0 t c =
    let p = c.requires.0 in
    let m = c.met_ends in (
      elim c.then-x-eq0.branch [
        | rest_ends-then-x-eq0-via-then-x-eq0 w ↦ first_ended _ _ _ _ p c.args.minus _ _ _ _ c.kept_in.ensures c.kept_in-then-x-eq0.ensures w.if-x-eq0.true m.result m.ensures
        | rest_ends-then-x-eq0-via-else-x-eq0+then-y-eq0 w ↦ second_ended _ _ _ _ p c.args.minus _ _ _ _ c.kept_in.ensures c.kept_in-then-x-eq0.ensures w.if-y-eq0.true m.result m.ensures
      ],
      refl,
      c.requires.1,
    )

pub rest_ends-lowest-j-requires : goal.rest_ends-lowest-j-requires
rest_ends-lowest-j-requires t c = (c.requires.0.holds.laid.laid, good_small _ _ _ c.requires.0.first, good_small _ _ _ c.requires.0.second)

pub rest_ends-overflow_add-tag : goal.rest_ends-overflow_add-tag
rest_ends-overflow_add-tag t c =
    let m = c.lowest-j in
    let hj = pair_left _ _ _ _ c.requires.0 m.result m.ensures.0 m.ensures.1 c.if-x-eq0.false in
    omega (arith, c.requires.0.holds.laid.laid.few)

pub rest_ends-overflow_cast-tag : goal.rest_ends-overflow_cast-tag
rest_ends-overflow_cast-tag t c =
    let m = c.lowest-j in
    let hj = pair_left _ _ _ _ c.requires.0 m.result m.ensures.0 m.ensures.1 c.if-x-eq0.false in
    omega (arith, c.requires.0.holds.laid.laid.few)

pub rest_ends-returns-in-Some : goal.rest_ends-returns-in-Some
rest_ends-returns-in-Some t c =
    let m = c.lowest-j in
    let p = c.requires.0 in
    let j = m.result in
    let hj = pair_left _ _ _ _ p j m.ensures.0 m.ensures.1 c.if-x-eq0.false in
    let kj = pair_from_lem _ _ _ _ p j m.ensures.0 m.ensures.1 m.ensures.2 in
    let h = noted_hit c.args.t.now c.args.s.now _ _ _ _ refl c.requires.1 c.recall_in.ensures c.in-Some.is
    (omega arith) in
    (reaches_jump _ _ _ _ p c.args.minus j m.ensures.0 m.ensures.1 kj hj (Some _) (h.at j refl), refl, c.requires.1)

pub rest_ends-fold_branches-requires : goal.rest_ends-fold_branches-requires
rest_ends-fold_branches-requires t c =
    let m = c.lowest-j in
    let p = c.requires.0 in
    let j = m.result in
    let hj = pair_left _ _ _ _ p j m.ensures.0 m.ensures.1 c.if-x-eq0.false in
    let kj = pair_from_lem _ _ _ _ p j m.ensures.0 m.ensures.1 m.ensures.2 in
    (omega arith, (pair_jump _ _ _ _ p j m.ensures.0 m.ensures.1 hj, c.requires.1, hj))

pub rest_ends-returns-in_err-ends : goal.rest_ends-returns-in_err-ends
rest_ends-returns-in_err-ends t c =
    let m = c.lowest-j in let z = c.fold_branches in
    let p = c.requires.0 in
    let j = m.result in
    let hj = pair_left _ _ _ _ p j m.ensures.0 m.ensures.1 c.if-x-eq0.false in
    let kj = pair_from_lem _ _ _ _ p j m.ensures.0 m.ensures.1 m.ensures.2 in
    rw c.from_residual.ensures (reaches_jump _ _ _ _ p c.args.minus j m.ensures.0 m.ensures.1 kj hj None (ends_lost z.result c.in_err-ends.was z.ensures.0), z.ensures.1, z.ensures.2)

pub rest_ends-returns : goal.rest_ends-returns
rest_ends-returns t c =
    let m = c.lowest-j in let z = c.fold_branches in let u = c.remember_in in
    let p = c.requires.0 in
    let j = m.result in
    let hj = pair_left _ _ _ _ p j m.ensures.0 m.ensures.1 c.if-x-eq0.false in
    let kj = pair_from_lem _ _ _ _ p j m.ensures.0 m.ensures.1 m.ensures.2 in
    let q = ends_are z.result c.in_ok-ends.was z.ensures.0 in (
      reaches_jump _ _ _ _ p c.args.minus j m.ensures.0 m.ensures.1 kj hj (Some c.in_ok-ends.ends) q,
      u.ensures.0 ∙ z.ensures.1,
      noted_more c.args.minus _ _ _ _ _ _ _ _ refl z.ensures.1 u.ensures z.ensures.2 (right_here c.args.minus _ j _ _ _ refl q),
    )
