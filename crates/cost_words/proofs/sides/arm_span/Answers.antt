-- `cost_words::sides::arm_span` meets its contract: what the branch adds and what is kept for its target. Assumes nothing.
use Rattle.cost_words.proofs.Keeping.{low_lost, high_lost}
use Rattle.cost_words.proofs.sides.arm_span.Goals as goal

pub returns-in_err-low : goal.returns-in_err-low
returns-in_err-low c =
    let a = c.args in
    rw c.from_residual.ensures (low_lost a.t.now a.list a.v c.half_of.result _ _ c.half_of.ensures c.kept_span-below.ensures c.in_err-low.ensures)

pub returns-in_err-high : goal.returns-in_err-high
returns-in_err-high c =
    let a = c.args in
    rw c.from_residual-in_err-high.ensures (high_lost a.t.now a.list a.v c.half_of.result _ _ c.half_of.ensures c.kept_span-below.ensures c.in_err-high.ensures)
