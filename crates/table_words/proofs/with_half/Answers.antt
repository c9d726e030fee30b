-- `table_words::with_half` meets its contract: the half for v is r, the other one stays. Assumes nothing.
use Rattle.std.proofs.Common.{arith, sym}
use Rattle.table_words.proofs.Halves.{half_even, half_odd}
use mathlib.Core.Path.{◌∙◌}
use Rattle.table_words.proofs.with_half.Goals as goal

pub returns-then-v-eq0 : goal.returns-then-v-eq0
returns-then-v-eq0 c =
    let a = c.args in let e = c.if-v-eq0.true in (
      half_even _ a.v e ∙ omega arith,
      λ u n. half_odd _ u (omega (arith, n)) ∙ omega arith ∙ sym (half_odd a.x u (omega (arith, n))),
    )

pub returns-else-v-eq0 : goal.returns-else-v-eq0
returns-else-v-eq0 c =
    let a = c.args in let e = c.if-v-eq0.false in (
      half_odd _ a.v e ∙ omega arith,
      λ u n. half_even _ u (omega (arith, n, e)) ∙ omega arith ∙ sym (half_even a.x u (omega (arith, n, e))),
    )
