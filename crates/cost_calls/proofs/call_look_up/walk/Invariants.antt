-- `cost_calls::call_look_up::walk` meets its contract: the branch and the sum stand on the way of the setting with the count, and the target word falls. Assumes nothing.
use Rattle.cost_calls.proofs.Looking.{OnWay}
use Rattle.promises.specs.CostWords.{cost_branch as branch}
use Rattle.cost_calls.proofs.call_look_up.walk.Given as goal

abbrev pub invariant-loop-x : goal.invariant-loop-x
invariant-loop-x l = OnWay l.t l.place l.setting l.asked (branch l.x l.a)

abbrev pub decreases-loop-x : goal.decreases-loop-x
decreases-loop-x l = l.x
