-- `cost_sound::adds_ok` meets its contract: each added integer passed lies within bounds. Assumes nothing.
use Rattle.std.proofs.Common.{arith}
use Rattle.theory_costs.proofs.Words.{fit_words, words_fit}
use borrow.Author.Count.{below_more}
use Rattle.cost_sound.proofs.adds_ok.Goals as goal
use Rattle.cost_sound.proofs.adds_ok.Goals.{then-a-lt147483648-via-then-a-lt147483648, then-a-lt147483648-via-else-a-lt147483648+then-a-gt4147483648}

pub returns-then-a-lt147483648 : goal.returns-then-a-lt147483648
returns-then-a-lt147483648 c = λ z.
    let h = fit_words _ (z.fits c.loop-v.v (omega (arith, c.loop-v.invariant.0))) in
    elim c.then-a-lt147483648.branch [
      | then-a-lt147483648-via-then-a-lt147483648 w ↦ omega (arith, c.adds_at-a.ensures)
      | then-a-lt147483648-via-else-a-lt147483648+then-a-gt4147483648 w ↦ omega (arith, c.adds_at-a.ensures)
    ]

pub loop-v-preserved : goal.loop-v-preserved
loop-v-preserved c = (
  c.loop-v.invariant.0,
  below_more _ _ c.loop-v.invariant.1 (words_fit _ _ (omega (arith, c.adds_at-a.ensures)) (omega (arith, c.adds_at-a.ensures))),
)
