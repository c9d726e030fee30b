-- `cost_sound::nodes_ok` meets its contract: each node passed is one. Assumes nothing.
use Rattle.std.proofs.Common.{ℕ, ◌<◌, ◌≡◌}
use Rattle.promises.specs.CostSound.{CostNodeOk as NodeOk}
use Rattle.promises.specs.Words.{count}
use Rattle.cost_sound.proofs.nodes_ok.Given as goal

abbrev pub invariant-loop-i : goal.invariant-loop-i
invariant-loop-i l = (l.n ≡ count l.t) × ((x : ℕ) → x < l.i → NodeOk l.t x)
