-- `cost_sound::range::pairs_ok` meets its contract: what is kept for the nodes passed is their own. Assumes nothing.
use Rattle.std.proofs.Common.{◌≡◌, Bool}
use Rattle.theory_costs.specs.Extremes.{Passed}
use Rattle.promises.specs.Words.{count}
use Rattle.promises.specs.CostWords.{cost_node_list as nodes}
use Rattle.promises.specs.CostSound.{side_of, kept}
use Rattle.cost_sound.proofs.range.pairs_ok.Given as goal

abbrev pub invariant-loop-i : goal.invariant-loop-i
invariant-loop-i l = (l.n ≡ count l.t) × ((up : Bool) → Passed (side_of up) (nodes l.t) l.i (kept up l.t))
