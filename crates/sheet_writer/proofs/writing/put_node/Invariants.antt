-- `sheet_writer::writing::put_node` meets its contract: the feature, and the first v branches after it (begun). Assumes nothing.
use Rattle.sheet_laying.specs.Laid.{Puts}
use Rattle.sheet_writer.proofs.Parts.{begun}
use Rattle.sheet_writer.proofs.writing.put_node.Given as goal

abbrev pub invariant-loop-v : goal.invariant-loop-v
invariant-loop-v l = Puts (begun l.t l.notes l.i l.v) l.initial.cursor l.cursor
