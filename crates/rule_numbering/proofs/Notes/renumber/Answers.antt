-- `rule_numbering::Notes::renumber` meets its contract: a phrase stays, a node has its note. Assumes nothing.
use Rattle.std.proofs.Common.{sym, arith}
use Rattle.rule_numbering.proofs.Numbers.{renumbered_phrase, renumbered_some, renumbered_none}
use Rattle.rule_numbering.proofs.Notes.renumber.Goals as goal

pub returns-then-b-lt-NUMBERS : goal.returns-then-b-lt-NUMBERS
returns-then-b-lt-NUMBERS c = sym (renumbered_phrase _ _ c.if-b-lt-NUMBERS.true)

pub overflow_add-result : goal.overflow_add-result
overflow_add-result c = omega (arith, c.requires.2, renumbered_some c.args.self.now c.args.b c.if-b-lt-NUMBERS.false c.in-Some.is)

pub returns-in-Some : goal.returns-in-Some
returns-in-Some c = rw c.from.ensures (sym (renumbered_some c.args.self.now c.args.b c.if-b-lt-NUMBERS.false c.in-Some.is))

pub returns-in-None : goal.returns-in-None
returns-in-None c = sym (renumbered_none c.args.self.now c.args.b c.if-b-lt-NUMBERS.false c.in-None.is)
