-- `rule_restrict::clear_notes` meets its contract: of the far words only the notes of nodes i and up may still not be 0 (Clearing). Assumes nothing.
use Rattle.rule_restrict.proofs.Noting.{Clearing}
use Rattle.promises.specs.Words.{count}
use Rattle.rule_restrict.proofs.clear_notes.Given as goal

abbrev pub invariant-loop-i : goal.invariant-loop-i
invariant-loop-i l = Clearing l.initial.t l.t l.i (count l.initial.t)
