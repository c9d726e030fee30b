-- `rule_words::branch_at` meets its contract: below 65,536 a phrase, else a node. Assumes nothing.
use Rattle.std.proofs.Common.{sym, arith}
use Rattle.rule_words.proofs.Reading.{decode_phrase, decode_node}
use Rattle.rule_words.proofs.branch_at.Goals as goal

pub returns-then-w-lt-NUMBERS : goal.returns-then-w-lt-NUMBERS
returns-then-w-lt-NUMBERS c = sym (decode_phrase c.args.w (omega arith))

pub returns-else-w-lt-NUMBERS : goal.returns-else-w-lt-NUMBERS
returns-else-w-lt-NUMBERS c = sym (decode_node c.args.w (omega arith))
