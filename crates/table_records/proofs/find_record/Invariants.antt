-- `table_records::find_record` meets its contract: in the loop no record from c on is the one searched, and the chain goes on at c. Assumes nothing.
use Rattle.table_records.proofs.Searching.{Searched}
use Rattle.table_records.proofs.find_record.Given as goal

abbrev pub invariant-loop-c : goal.invariant-loop-c
invariant-loop-c l = Searched l.t l.k l.list l.c

abbrev pub decreases-loop-c : goal.decreases-loop-c
decreases-loop-c l = l.c
