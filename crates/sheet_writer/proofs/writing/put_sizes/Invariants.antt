-- `sheet_writer::writing::put_sizes` meets its contract: the first k sizes stand one after the other. Assumes nothing.
use Rattle.sheet_laying.specs.Laid.{Puts}
use Rattle.promises.specs.Words.{size}
use Rattle.promises.specs.Tab.{tab}
use Rattle.sheet_writer.proofs.writing.put_sizes.Given as goal

abbrev pub invariant-loop-k : goal.invariant-loop-k
invariant-loop-k l = Puts (tab (size l.t) l.k) l.initial.cursor l.cursor
