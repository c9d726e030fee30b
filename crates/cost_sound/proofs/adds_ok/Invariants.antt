-- `cost_sound::adds_ok` meets its contract: each added integer passed lies within bounds. Assumes nothing.
use Rattle.std.proofs.Common.{ℕ, ◌<◌, ◌≡◌}
use Rattle.promises.specs.CostWords.{added}
use Rattle.promises.specs.Words.{feature, size, body}
use Rattle.promises.specs.Range.{add_most}
use Rattle.promises.specs.Integers.{Fit, int}
use Rattle.cost_sound.proofs.adds_ok.Given as goal

abbrev pub invariant-loop-v : goal.invariant-loop-v
invariant-loop-v l = (l.s ≡ size l.t (feature l.t l.i)) × ((x : ℕ) → x < l.v → Fit add_most (int (added (body l.t l.i) x)))
