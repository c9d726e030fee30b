-- `rule_nodes::make` meets its contract: what was found is there; what is missing becomes the last node, where there is room. Assumes nothing.
use Rattle.std.proofs.Common.{arith}
use Rattle.rule_nodes.proofs.Making.{found_at, found_missing, made_new, made_none, made_there}
use Rattle.rule_nodes.proofs.make.Goals as goal

pub returns-then-count_word-capacity_word : goal.returns-then-count_word-capacity_word
returns-then-count_word-capacity_word c =
    let w = c.args.t.now in
    let ab = found_missing w c.args.k c.args.list _ c.in_default.is
    c.find.ensures in
    made_new w c.args.k c.args.list c.requires.0 c.requires.1 c.requires.2 _ _ c.push-i.result ab (omega arith) c.branch_word.ensures
    c.push-i.ensures.0 c.push-i.ensures.1

pub returns-in_default : goal.returns-in_default
returns-in_default c =
    let w = c.args.t.now in
    let ab = found_missing w c.args.k c.args.list _ c.in_default.is c.find.ensures in
    made_none w c.args.k c.args.list c.requires.0 c.requires.1 c.requires.2 ab (omega arith)

pub branch_word-requires-2 : goal.branch_word-requires-2
branch_word-requires-2 c = (found_at c.args.t.now c.args.k c.args.list _ c.in-Some.b c.in-Some.is c.find.ensures).1

pub returns : goal.returns
returns c =
    let w = c.args.t.now in
    made_there w c.args.k c.args.list c.requires.0 c.requires.1 c.requires.2 _ c.in-Some.b c.branch_word-2.ensures
    (found_at w c.args.k c.args.list _ c.in-Some.b c.in-Some.is c.find.ensures).0
