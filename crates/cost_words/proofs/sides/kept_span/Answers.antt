-- `cost_words::sides::kept_span` meets its contract: 0 for the end, the spare words for a node. Assumes nothing.
use Rattle.std.proofs.Common.{arith}
use Rattle.cost_words.proofs.Packing.{word_of_end, word_of_node}
use Rattle.cost_words.proofs.Keeping.{keeps_end}
use Rattle.cost_words.proofs.sides.kept_span.Goals as goal

pub record_word-requires : goal.record_word-requires
record_word-requires c = let e = word_of_node c.args.x c.in-Node.i c.in-Node.ensures in (omega (arith, c.requires.room), omega (arith, c.requires.most), omega arith)

pub record_word-requires-in-Node : goal.record_word-requires-in-Node
record_word-requires-in-Node c = let e = word_of_node c.args.x c.in-Node.i c.in-Node.ensures in (omega (arith, c.requires.room), omega (arith, c.requires.most), omega arith)

pub returns-in-End : goal.returns-in-End
returns-in-End c = keeps_end c.args.t.now c.args.x (word_of_end c.args.x c.in-End.ensures)
