-- `rule_nodes::top_of` meets its contract: a phrase tests nothing, a node tests its feature. Assumes nothing.
use Rattle.std.proofs.Common.{arith}
use Rattle.rule_nodes.proofs.Stepping.{top_phrase, top_node}
use Rattle.rule_nodes.proofs.top_of.Goals as goal

pub returns-then-b-lt-NUMBERS : goal.returns-then-b-lt-NUMBERS
returns-then-b-lt-NUMBERS c = cc (top_phrase c.args.t.now c.args.b (omega arith))

pub returns-else-b-lt-NUMBERS : goal.returns-else-b-lt-NUMBERS
returns-else-b-lt-NUMBERS c = cc (top_node c.args.t.now c.args.b (omega arith))
