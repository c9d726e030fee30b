-- `sheets::call_look_up::walk` meets its contract: the branch word stands on the way of the setting with the count, and falls. Assumes nothing.
use Rattle.sheets.proofs.Finding.{Way}
use Rattle.sheets.proofs.call_look_up.walk.Given as goal

abbrev pub invariant-loop-b : goal.invariant-loop-b
invariant-loop-b l = Way l.sheet.laid.bytes.now l.setting l.asked l.b

abbrev pub decreases-loop-b : goal.decreases-loop-b
decreases-loop-b l = l.b
