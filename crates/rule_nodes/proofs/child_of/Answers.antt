-- `rule_nodes::child_of` meets its contract: a node of feature k goes to its branch, any other branch waits. Assumes nothing.
use Rattle.std.proofs.Common.{arith, sym}
use Rattle.rule_nodes.proofs.Reading.{good_small}
use Rattle.rule_nodes.proofs.Stepping.{is_node, child_here, child_skip}
use mathlib.Core.Path.{◌∙◌}
use Rattle.rule_nodes.proofs.child_of.Goals as goal

pub top_of-requires : goal.top_of-requires
top_of-requires c = (c.requires.0.holds.laid.laid, good_small _ _ _ c.requires.0.good)

pub overflow_sub-b : goal.overflow_sub-b
overflow_sub-b c = omega (arith, is_node c.args.t.now c.args.b (omega arith))

pub overflow_add-v : goal.overflow_add-v
overflow_add-v c = omega (arith, c.requires.0.holds.laid.laid.large c.args.k c.requires.1)

pub record_word-requires : goal.record_word-requires
record_word-requires c =
    let n = is_node c.args.t.now c.args.b (omega arith) in
    let s = good_small _ _ _ c.requires.0.good in
    let d = c.requires.0.holds.laid.laid in
    let m = d.large c.args.k c.requires.1 in
    (omega (arith, d.room, d.within), omega (arith, d.most, d.within), omega arith)

pub returns-then-top_of-k : goal.returns-then-top_of-k
returns-then-top_of-k c =
    rw c.record_word.ensures (child_here c.args.t.now c.args.k c.args.b c.args.v c.requires.0 c.requires.1 c.requires.2
    (sym c.top_of.ensures ∙ c.if-top_of-k.true))

pub returns-else-top_of-k : goal.returns-else-top_of-k
returns-else-top_of-k c = child_skip c.args.t.now c.args.k c.args.b c.args.v c.requires.0 (λ d. c.if-top_of-k.false (c.top_of.ensures ∙ d))
