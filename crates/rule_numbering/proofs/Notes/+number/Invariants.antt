-- `rule_numbering::Notes::number` meets its contract: a branch word of a node says an earlier node, so the measure falls; the first v branches are numbered (Numbering). Assumes nothing.
use Rattle.std.proofs.Common.{◌<◌}
use Rattle.rule_numbering.specs.Numbering.{Numbering}
use Rattle.rule_numbering.proofs.Notes.+number.Given as goal

abbrev pub decreases-number : goal.decreases-number
decreases-number l = l.b

abbrev pub invariant-loop-v : goal.invariant-loop-v
invariant-loop-v l = record { numbering : Numbering l.t l.initial.self l.self l.i l.v l.initial.self.count l.self.count; room : l.self.count < 4096 }
