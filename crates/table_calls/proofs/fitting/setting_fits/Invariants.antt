-- `table_calls::fitting::setting_fits` meets its contract: the values passed are below their sizes. Assumes nothing.
use Rattle.std.proofs.Common.{get_or, ℕ, ◌<◌}
use Rattle.promises.specs.Words.{size}
use Rattle.table_calls.proofs.fitting.setting_fits.Given as goal

abbrev pub invariant-loop-k : goal.invariant-loop-k
invariant-loop-k l = (j : ℕ) → j < l.k → get_or l.setting j 0 < size l.t j
