-- `table_calls::matching::same_features` meets its contract: the sizes passed are equal. Assumes nothing.
use Rattle.std.proofs.Common.{ℕ, ◌<◌, ◌≡◌}
use Rattle.promises.specs.Words.{size}
use Rattle.table_calls.proofs.matching.same_features.Given as goal

abbrev pub invariant-loop-k : goal.invariant-loop-k
invariant-loop-k l = (j : ℕ) → j < l.k → size l.t j ≡ size l.u j
