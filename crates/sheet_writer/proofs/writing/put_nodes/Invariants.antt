-- `sheet_writer::writing::put_nodes` meets its contract: the first j nodes stand one after the other. Assumes nothing.
use Rattle.sheet_bytes.specs.Sections.{nodes_bytes}
use Rattle.sheet_bytes.specs.Sheet.{branch_bytes}
use Rattle.rule_numbering.specs.Numbering.{numbered}
use Rattle.sheet_laying.specs.Laid.{Puts}
use Rattle.sheet_writer.proofs.writing.put_nodes.Given as goal

abbrev pub invariant-loop-j : goal.invariant-loop-j
invariant-loop-j l = Puts (nodes_bytes branch_bytes (numbered l.t l.notes l.j)) l.initial.cursor l.cursor
