-- `rule_nodes::find` meets its contract: equal branches need no node; else the records tell whether the node is there. Assumes nothing.
use Rattle.std.proofs.Common.{arith}
use Rattle.settings.proofs.Answers.{sure, sure_not}
use Rattle.rule_nodes.proofs.Making.{found_same, found_node, found_none}
use Rattle.rule_nodes.proofs.find.Goals as goal

pub all_same-requires : goal.all_same-requires
all_same-requires c = omega (arith, c.requires.0.laid.laid.large c.args.k c.requires.1)

pub returns-then-all_same : goal.returns-then-all_same
returns-then-all_same c =
    let w = c.args.t.now in
    let k = c.args.k in
    found_same w k c.args.list c.requires.0 c.requires.1 c.requires.2 c.branch_at.result c.branch_at.ensures (rw c.size_word.ensures at (sure c.if-all_same.true c.all_same.ensures))

pub returns-in_err-i : goal.returns-in_err-i
returns-in_err-i c =
    rw c.from_residual.ensures
    (found_none c.args.t.now c.args.k c.args.list c.requires.0 c.requires.1 c.requires.2
    (rw c.size_word.ensures at (sure_not c.if-all_same.false c.all_same.ensures)) c.in_err-i.ensures)

pub returns : goal.returns
returns c =
    found_node c.args.t.now c.args.k c.args.list c.requires.0 c.requires.1 c.requires.2 _ c.in_ok-i.ensures.0
    (rw c.size_word.ensures at (sure_not c.if-all_same.false c.all_same.ensures)) c.in_ok-i.ensures.1
