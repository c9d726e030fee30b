-- `sheet_check::order::visit_roots` meets its contract: what is left of the roots is the whole walk. Assumes nothing.
use Rattle.sheet_check.proofs.Walks.{Rounds}
use Rattle.sheet_check.proofs.order.visit_roots.Given as goal

abbrev pub invariant-loop-r : goal.invariant-loop-r
invariant-loop-r l = Rounds l.lawful.laid.bytes.now l.r l.d
