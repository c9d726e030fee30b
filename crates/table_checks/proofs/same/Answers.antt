-- `table_checks::same` meets its contract: the words passed are equal. Assumes nothing.
use Rattle.std.proofs.Common.{◌∙◌, sym, arith}
use Rattle.table_checks.proofs.Chaining.{same_word}
use Rattle.table_checks.proofs.same.Goals as goal

pub returns-then-record_word : goal.returns-then-record_word
returns-then-record_word c = λ z. c.if-record_word.true (c.record_word.ensures ∙ same_word _ _ _ z c.loop-v.v (omega arith) ∙ sym c.record_word-in-loop-v.ensures)
