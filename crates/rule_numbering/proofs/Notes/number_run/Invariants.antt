-- `rule_numbering::Notes::number_run` meets its contract: the first q places are numbered in turn (Ran). Assumes nothing.
use Rattle.rule_numbering.specs.Running.{Ran}
use Rattle.rule_numbering.proofs.Notes.number_run.Given as goal

abbrev pub invariant-loop-q : goal.invariant-loop-q
invariant-loop-q l = Ran l.t l.self l.place l.q l.self.count
