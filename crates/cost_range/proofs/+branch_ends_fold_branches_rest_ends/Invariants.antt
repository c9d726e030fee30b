-- `cost_range::rest_ends`, `fold_branches` and `branch_ends` meet their contracts: the remaining features fall; the values passed are folded, and the memory stays right. Assumes nothing.
use Rattle.std.proofs.Common.{◌≡◌, ◌+◌, ◌-◌, ◌*◌, drop}
use Rattle.table_notes.specs.Plain.{plain}
use Rattle.cost_range.specs.Ends.{of_targets, Folds, Noted}
use Rattle.promises.specs.Words.{features, size, sizes}
use Rattle.cost_range.proofs.+branch_ends_fold_branches_rest_ends.Given as goal

abbrev pub decreases-rest_ends : goal.decreases-rest_ends
decreases-rest_ends l = 3 * (features (plain l.t.now) - l.k)

abbrev pub decreases-fold_branches : goal.decreases-fold_branches
decreases-fold_branches l = 3 * (features (plain l.t.now) - l.k) - 1

abbrev pub decreases-branch_ends : goal.decreases-branch_ends
decreases-branch_ends l = 3 * (features (plain l.t.now) - l.k) + 1

abbrev pub invariant-fold_branches-loop-v : goal.invariant-fold_branches-loop-v
invariant-fold_branches-loop-v l =
    (l.m ≡ size (plain l.initial.t) l.k) × Folds (drop (l.k + 1) (sizes (plain l.initial.t))) (of_targets l.minus (plain l.initial.t) l.k l.x l.y) l.v l.ends ×
    (plain l.t ≡ plain l.initial.t) × Noted l.minus l.t l.s
