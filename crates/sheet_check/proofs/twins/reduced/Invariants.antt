-- `sheet_check::twins::reduced` meets its contract: the nodes passed are chained, none is idle, and each was new. Assumes nothing.
use Rattle.std.proofs.Common.{ℕ, ◌<◌, ◌≡◌, length}
use Rattle.sheet_check.specs.Chains.{Chained}
use Rattle.promises.specs.Sheet.{SheetAlike as Alike, SheetAlone as New}
use Rattle.sheet_check.proofs.twins.reduced.Given as goal

abbrev pub invariant-loop-i : goal.invariant-loop-i
invariant-loop-i l = record {
  heads : length l.heads ≡ 4096;
  links : length l.links ≡ 4096;
  chained : Chained l.laid.bytes.now l.heads l.links l.i;
  differ : (j : ℕ) → j < l.i → Alike l.laid.bytes.now j → ⊥;
  new : (j : ℕ) → j < l.i → New l.laid.bytes.now j;
}
