-- `sheets::call_look_up_all::look_up_all` meets its contract: bytes that the check takes are a good sheet. Assumes nothing.
use Rattle.std.proofs.Common.{◌≡◌}
use Rattle.sheets.proofs.Testing.{good_taken}
use Rattle.sheets.proofs.call_look_up_all.look_up_all.Goals as goal

pub placed-sheet-requires : goal.placed-sheet-requires
placed-sheet-requires c = good_taken (rw c.in_ok-check_sheet.was at c.check_sheet.ensures)
