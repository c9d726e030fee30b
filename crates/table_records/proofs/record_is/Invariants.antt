-- `table_records::record_is` meets its contract: in the loop the first v words of the body are the list's. Assumes nothing.
use Rattle.std.proofs.Common.{get_or, ℕ, ◌<◌, ◌≡◌}
use Rattle.promises.specs.Words.{body}
use Rattle.table_records.proofs.record_is.Given as goal

abbrev pub invariant-loop-v : goal.invariant-loop-v
invariant-loop-v l = (u : ℕ) → u < l.v → body l.t l.i u ≡ get_or l.x-items u 0
