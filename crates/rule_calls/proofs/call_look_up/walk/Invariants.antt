-- `rule_calls::call_look_up::walk` meets its contract: the branch word stands on the way of the setting with the count, and falls. Assumes nothing.
use Rattle.rule_calls.proofs.Looking.{OnWay}
use Rattle.rule_calls.proofs.call_look_up.walk.Given as goal

abbrev pub invariant-loop-b : goal.invariant-loop-b
invariant-loop-b l = OnWay l.t l.place l.setting l.asked l.b

abbrev pub decreases-loop-b : goal.decreases-loop-b
decreases-loop-b l = l.b
