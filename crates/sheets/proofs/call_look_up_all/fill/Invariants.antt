-- `sheets::call_look_up_all::fill` meets its contract. The invariant: the row begins at `start`, and the words before its word are the numbers of their rows. Assumes nothing.
use Rattle.std.proofs.Common.{◌≡◌, ◌*◌, length}
use Rattle.promises.specs.Sheet.{sheet_sizes}
use Rattle.promises.specs.SheetDeeds.{number_in}
use Rattle.sheets.proofs.Rows.{Filled}
use Rattle.sheets.proofs.call_look_up_all.fill.Given as goal

abbrev pub invariant-loop-number : goal.invariant-loop-number
invariant-loop-number l = record {
  begins : l.start ≡ l.number-index * length (sheet_sizes l.sheet.laid.bytes.now);
  filled : Filled (number_in l.sheet.laid.bytes.now l.settings) l.number-index l.numbers;
}
