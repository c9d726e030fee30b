-- `cost_words::target_word` meets its contract: the end's word is 0, a node's is 1 + its index, which fits. Assumes nothing.
use Rattle.std.proofs.Common.{arith}
use Rattle.cost_words.proofs.Packing.{word_end, word_node}
use Rattle.cost_words.proofs.target_word.Goals as goal

pub returns-in-End : goal.returns-in-End
returns-in-End c = word_end c.args.x c.in-End.is

pub returns-in-Node : goal.returns-in-Node
returns-in-Node c = word_node c.args.x _ _ c.in-Node.is (omega arith)
