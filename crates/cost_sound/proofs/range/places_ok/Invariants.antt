-- `cost_sound::range::places_ok` meets its contract: the places passed lie in range. Assumes nothing.
use Rattle.std.proofs.Common.{ℕ, ◌<◌}
use Rattle.promises.specs.Words.{sizes}
use Rattle.promises.specs.CostWords.{cost_of}
use Rattle.promises.specs.Range.{Within, cost_most}
use Rattle.cost_sound.proofs.range.places_ok.Given as goal

abbrev pub invariant-loop-p : goal.invariant-loop-p
invariant-loop-p l = (x : ℕ) → x < l.p → Within cost_most (sizes l.t) (cost_of l.t x)
