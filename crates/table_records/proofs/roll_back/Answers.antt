-- `table_records::roll_back` meets its contract: in the loop the records from the counter on are taken away. Assumes nothing.
use Rattle.std.proofs.Common.{arith}
use Rattle.table_records.proofs.Undoing.{roll_more}
use Rattle.table_records.proofs.roll_back.Goals as goal

pub loop-preserved : goal.loop-preserved
loop-preserved c = let l = c.loop in (omega arith, roll_more _ l.t _ l.counter l.invariant.1 (omega arith) c.pop.ensures)
