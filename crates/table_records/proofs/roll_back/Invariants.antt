-- `table_records::roll_back` meets its contract: in the loop the records from the counter on are taken away. Assumes nothing.
use Rattle.std.proofs.Common.{◌≤◌}
use Rattle.table_records.specs.Changes.{Rolled}
use Rattle.table_records.proofs.roll_back.Given as goal

abbrev pub invariant-loop : goal.invariant-loop
invariant-loop l = (l.n ≤ l.counter) × Rolled l.initial.t l.t l.counter
