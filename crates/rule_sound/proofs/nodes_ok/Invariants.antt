-- `rule_sound::nodes_ok` meets its contract: each node passed is one. Assumes nothing.
use Rattle.std.proofs.Common.{ℕ, ◌<◌}
use Rattle.promises.specs.RuleSound.{RuleNodeOk as NodeOk}
use Rattle.rule_sound.proofs.nodes_ok.Given as goal

abbrev pub invariant-loop-i : goal.invariant-loop-i
invariant-loop-i l = (x : ℕ) → x < l.i → NodeOk l.t x
