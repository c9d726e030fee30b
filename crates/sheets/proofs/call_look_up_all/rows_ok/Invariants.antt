-- `sheets::call_look_up_all::rows_ok` meets its contract. The invariant: the first rows are settings, as many as were tested, and end at `from`. Assumes nothing.
use Rattle.promises.specs.Sheet.{sheet_sizes}
use Rattle.sheets.proofs.Rows.{Tested}
use Rattle.sheets.proofs.call_look_up_all.rows_ok.Given as goal

abbrev pub invariant-rows : goal.invariant-rows
invariant-rows l = Tested (sheet_sizes l.head.bytes.now) l.settings l.counter l.from
