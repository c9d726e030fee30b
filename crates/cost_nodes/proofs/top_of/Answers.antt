-- `cost_nodes::top_of` meets its contract: the end tests nothing, a node tests its feature. Assumes nothing.
use Rattle.std.proofs.Common.{sym, arith}
use mathlib.Core.Path.{◌∙◌}
use Rattle.cost_words.proofs.Packing.{word_of_end, word_of_node}
use Rattle.cost_nodes.proofs.Stepping.{top_end, top_node}
use Rattle.cost_nodes.proofs.top_of.Goals as goal

pub record_word-requires : goal.record_word-requires
record_word-requires c =
    let e = word_of_node c.args.x c.in-Node.i c.in-Node.ensures in
    let d = c.requires.0 in
    (omega (arith, c.requires.1, d.room, d.within), omega (arith, c.requires.1, d.most, d.within), omega arith)

pub returns-in-End : goal.returns-in-End
returns-in-End c = c.features_word.ensures ∙ sym (top_end c.args.t.now c.args.x (word_of_end c.args.x c.in-End.ensures))

pub returns-in-Node : goal.returns-in-Node
returns-in-Node c = c.record_word.ensures ∙ sym (top_node c.args.t.now c.args.x c.in-Node.i (word_of_node c.args.x c.in-Node.i c.in-Node.ensures))
