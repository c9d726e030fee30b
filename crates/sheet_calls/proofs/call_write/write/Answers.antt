-- `sheet_calls::call_write::write` meets its contract: what was laid decides past the door. Assumes nothing.
use Rattle.sheet_calls.proofs.Sheeted.{written}
use Rattle.sheet_calls.proofs.call_write.write.Goals as goal

pub returns : goal.returns
returns c = rw c.ok_or.ensures.value (written c.door.ensures c.in_ok-door.was c.put_sheet.result c.put_sheet.ensures)
