-- `rule_engine::rest_result`, `node_result` and `fill_branches` meet their contracts: the remaining features fall; the first v branches are filled, and the memory is right so far. Assumes nothing.
use Rattle.std.proofs.Common.{length, ◌-◌, ◌*◌, ◌≡◌}
use Rattle.rule_operators.specs.Operators.{number_of, forgotten_by}
use Rattle.rule_engine.specs.Memory.{Noted}
use Rattle.rule_engine.specs.Joint.{joint}
use Rattle.table_notes.specs.Plain.{plain}
use Rattle.rule_nodes.specs.Nodes.{Filling}
use Rattle.promises.specs.Words.{features}
use Rattle.rule_engine.proofs.+fill_branches_node_result_rest_result.Given as goal

abbrev pub decreases-rest_result : goal.decreases-rest_result
decreases-rest_result l = 3 * (features (plain l.t.now) - l.k)

abbrev pub decreases-node_result : goal.decreases-node_result
decreases-node_result l = 3 * (features (plain l.t.now) - l.k) - 1

abbrev pub decreases-fill_branches : goal.decreases-fill_branches
decreases-fill_branches l = 3 * (features (plain l.t.now) - l.k) - 2

abbrev pub invariant-fill_branches-loop-v : goal.invariant-fill_branches-loop-v
invariant-fill_branches-loop-v l =
    Filling (plain l.initial.t) (plain l.t) l.k
    (joint (plain l.initial.t) (number_of l.operator) (forgotten_by l.operator) (length l.ops) l.k l.ops) l.v l.list
    × Noted l.t (number_of l.operator) (forgotten_by l.operator) (length l.ops) l.s × (length l.next ≡ length l.ops)
