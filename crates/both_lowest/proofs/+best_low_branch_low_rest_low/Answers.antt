-- `both_lowest::rest_low`, `best_low` and `branch_low` meet their contracts: the remaining features fall; the lowest of the first v values is kept, and the memory stays right. Assumes nothing.
use Rattle.std.proofs.Common.{ℤ, arith, false, ◌≡◌, refl, sym, ap}
use Rattle.std.proofs.Math.Option as maybe
use Rattle.std.proofs.Math.Option.{some}
use Rattle.std.proofs.Common.{ℕ, ltb, unwrap_or}
use Rattle.std.specs.Bool.{then_some}
use mir.Val.{bool_byte}
use Rattle.both_lowest.proofs.Lows.{told_flagged}
use Rattle.both_lowest.proofs.Pairs.{to_none, to_more, to_all, rule_step, pair_next, cost_next, next_fits, spot_none, spot_phrase, target_near, node_left, noted}
use Rattle.both_lowest.specs.Pairs.{told, raised, lesser, cost_of}
use Rattle.table_memory.proofs.Remembering.{hit, remembers_stored}
use Rattle.settings.proofs.Answers.{sure_not}
use mathlib.Core.Path.{◌∙◌}
use Rattle.promises.specs.Integers.{int}
use Rattle.promises.specs.Words.{size}
use Rattle.both_lowest.proofs.+best_low_branch_low_rest_low.Goals as goal

pub best_low-loop-v-init : goal.best_low-loop-v-init
best_low-loop-v-init t c = (to_none c.args.c.now c.args.r.now c.args.k c.args.x c.args.b, c.requires.1)

pub best_low-loop-v-preserved : goal.best_low-loop-v-preserved
best_low-loop-v-preserved t c =
    let a = c.args in let l = c.loop-v in (
      to_more a.c.now a.r.now a.k a.x a.b l.v ∙ (λ i. lesser (l.invariant.0 i) (c.branch_low.ensures.0 i))
          ∙ sym c.lower-best.ensures,
      c.branch_low.ensures.1,
    )

pub best_low-returns : goal.best_low-returns
best_low-returns t c =
    let l = c.loop-v in let e : l.v ≡ size c.args.c.now c.args.k = omega (arith, c.size_word-v-end.ensures) in
    (ap cost_of (to_all c.args.c.now c.args.r.now c.args.k c.args.x c.args.b l.v c.requires.2 e) ∙ l.invariant.0, l.invariant.1)

pub branch_low-branch_at-d-requires : goal.branch_low-branch_at-d-requires
branch_low-branch_at-d-requires t c = let p = c.requires in rule_step p.0 _ p.2 p.3

pub branch_low-rest_low-requires : goal.branch_low-rest_low-requires
branch_low-rest_low-requires t c =
    let p = c.requires in (
      omega arith,
      (
        pair_next p.0 c.args.v _ c.arm_at-a.result.adds _ p.2 p.3 c.arm_at-a.ensures
            c.branch_at-d.ensures,
        p.1,
      ),
    )

pub branch_low-sum_word-requires : goal.branch_low-sum_word-requires
branch_low-sum_word-requires t c =
    let p = c.requires in next_fits p.0 c.args.v _ c.arm_at-a.result.adds _ p.2 p.3
    c.arm_at-a.ensures c.branch_at-d.ensures c.in_ok-low.low
    c.in_ok-low.ensures.0

pub branch_low-returns-in_err-low : goal.branch_low-returns-in_err-low
branch_low-returns-in_err-low t c =
    let p = c.requires in (
      cost_next p.0 c.args.v _ c.arm_at-a.result.adds _ p.2 p.3 c.arm_at-a.ensures c.branch_at-d.ensures
          ∙ ap (raised (int c.arm_at-a.result.adds)) c.in_err-low.ensures.0 ∙ ap told (sym c.from_residual.ensures),
      c.in_err-low.ensures.1,
    )

pub branch_low-returns : goal.branch_low-returns
branch_low-returns t c =
    let p = c.requires in (
      cost_next p.0 c.args.v _ c.arm_at-a.result.adds _ p.2 p.3 c.arm_at-a.ensures c.branch_at-d.ensures
          ∙ ap (raised (int c.arm_at-a.result.adds)) c.in_ok-low.ensures.0 ∙ ap {B = maybe.Option ℤ} some (sym c.sum_word.ensures),
      c.in_ok-low.ensures.1,
    )

pub rest_low-returns-then-number_of-eq0 : goal.rest_low-returns-then-number_of-eq0
rest_low-returns-then-number_of-eq0 t c = let p = c.requires in (ap cost_of (spot_none p.0 c.number_of.ensures c.if-number_of-eq0.true), p.1)

pub rest_low-kept_span-requires : goal.rest_low-kept_span-requires
rest_low-kept_span-requires t c = target_near c.requires.0

pub rest_low-returns-then-is_number : goal.rest_low-returns-then-is_number
rest_low-returns-then-is_number t c =
    let p = c.requires in (
      spot_phrase p.0 c.number_of.ensures c.if-number_of-eq0.false
          ∙ ap {B = maybe.Option ℤ} some (sym (c.kept_span.ensures.keeps false)),
      p.1,
    )

pub rest_low-returns-in-Some : goal.rest_low-returns-in-Some
rest_low-returns-in-Some t c =
    let p = c.requires in let q = c.tested-j.ensures c.args.k p.0 in (
      q.same ∙ (hit _ refl c.args.s.now _ _ _ p.1 c.recall.ensures c.in-Some.is (omega arith)).right
          c.tested-j.result refl ∙ ap told (sym c.then_some.ensures),
      p.1,
    )

pub rest_low-best_low-y-requires : goal.rest_low-best_low-y-requires
rest_low-best_low-y-requires t c =
    let p = c.requires in let q = c.tested-j.ensures c.args.k p.0 in let h = node_left q.pair (sure_not c.if-is_number.false c.is_number.ensures) in
    (omega (arith, q.from), (q.pair, p.1, h))

pub rest_low-returns : goal.rest_low-returns
rest_low-returns t c =
    let p = c.requires in let q = c.tested-j.ensures c.args.k p.0 in (
      q.same ∙ c.best_low-y.ensures.0,
      remembers_stored _ refl _ _ _ _ c.best_low-y.ensures.1 c.remember.ensures
          (noted c.tested-j.result _ _ _ refl
          (ap {A = ℕ × ℕ} (λ p. then_some (ltb 0 p.0) p.1) (λ i. (c.from.ensures i, c.unwrap_or.ensures i))
          ∙ ap (λ t. then_some (ltb 0 (bool_byte t)) (unwrap_or c.best_low-y.result 2147483648)) c.is_some.ensures
          ∙ told_flagged c.best_low-y.result 2147483648) c.best_low-y.ensures.0),
    )
