-- `both_choose::rest_result`, `fill_branches` and `branch_result` meet their contracts: the remaining features fall; the first v branches are filled, and the memory is right for
-- the table so far. Assumes nothing.
use Rattle.std.proofs.Common.{◌+◌, ◌-◌, ◌*◌}
use Rattle.both_choose.specs.Memory.{Noted}
use Rattle.both_choose.specs.Choice.{choice}
use Rattle.cost_nodes.specs.Nodes.{Filling}
use Rattle.table_notes.specs.Plain.{plain}
use Rattle.rule_lending.specs.Lending.{lent}
use Rattle.promises.specs.CostWords.{target, cost_node_list as nodes}
use Rattle.promises.specs.Words.{features}
use Rattle.promises.specs.Integers.{int}
use Rattle.both_choose.proofs.+branch_result_fill_branches_rest_result.Given as goal

abbrev pub decreases-rest_result : goal.decreases-rest_result
decreases-rest_result l = 3 * (features (plain l.t.now) - l.k)

abbrev pub decreases-fill_branches : goal.decreases-fill_branches
decreases-fill_branches l = 3 * (features (plain l.t.now) - l.k) - 1

abbrev pub decreases-branch_result : goal.decreases-branch_result
decreases-branch_result l = 3 * (features (plain l.t.now) - l.k) + 1

abbrev pub invariant-fill_branches-loop-v : goal.invariant-fill_branches-loop-v
invariant-fill_branches-loop-v l =
    Filling (plain l.initial.t) (plain l.t) l.k (choice (lent l.r l.k l.b) (nodes (plain l.initial.t)) l.k (target l.x) (target l.y) (int l.d)) l.v l.arms × Noted l.r l.t l.s
