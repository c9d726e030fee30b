-- `sheet_writer::writing::sheet_length` meets its contract: the bytes of the first j nodes are counted. Assumes nothing.
use Rattle.std.proofs.Common.{◌≡◌, ◌+◌, ◌*◌, ◌≤◌, length}
use Rattle.sheet_bytes.specs.Sections.{nodes_bytes}
use Rattle.sheet_bytes.specs.Sheet.{branch_bytes}
use Rattle.rule_numbering.specs.Numbering.{numbered}
use Rattle.promises.specs.Words.{features}
use Rattle.sheet_writer.proofs.writing.sheet_length.Given as goal

abbrev pub invariant-loop-j : goal.invariant-loop-j
invariant-loop-j l = record { counted : l.n ≡ 12 + features l.t + length (nodes_bytes branch_bytes (numbered l.t l.notes l.j)); small : l.n ≤ 28 + 25 * l.j }
