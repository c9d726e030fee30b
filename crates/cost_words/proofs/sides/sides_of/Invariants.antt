-- `cost_words::sides::sides_of` meets its contract: the furthest of the branches passed, on each side. Assumes nothing.
use Rattle.std.proofs.Common.{Some}
use Rattle.cost_words.specs.Sides.{Sides}
use Rattle.cost_words.proofs.sides.sides_of.Given as goal

abbrev pub invariant-loop-v : goal.invariant-loop-v
invariant-loop-v l = Sides l.t l.list l.v (Some l.best)
