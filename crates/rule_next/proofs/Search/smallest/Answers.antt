-- `rule_next::Search::smallest` meets its contract: no value passed leads to the number. Assumes nothing.
use Rattle.std.proofs.Common.{arith}
use borrow.Author.Count.{below_more}
use Rattle.settings.proofs.Answers.{sure, sure_not}
use Rattle.rule_next.proofs.Marking.{value_tells, spot_small}
use Rattle.rule_next.proofs.Stepping.{spot_place, spot_next}
use Rattle.rule_next.proofs.Search.smallest.Goals as goal

pub child_of-requires : goal.child_of-requires
child_of-requires c = let p = c.requires in (spot_place p.0, p.1, omega arith)

pub branch_meets-requires : goal.branch_meets-requires
branch_meets-requires c =
    let p = c.requires in let h = p.0.sound.header in
    omega (arith, p.3.1.long, h.most, h.within, spot_small (spot_next p.0 c.loop-v.v c.child_of.result c.child_of.ensures p.1))

pub returns-then-branch_meets : goal.returns-then-branch_meets
returns-then-branch_meets c =
    let p = c.requires in let l = c.loop-v in
    record {
      from = omega arith;
      below = omega arith;
      none = λ y f h. l.invariant y h f;
      leads = sure c.if-branch_meets.true (value_tells p.0 p.1 c.args.self.now.number l.v c.child_of.result c.branch_meets.result c.child_of.ensures c.branch_meets.ensures p.3);
    }

pub loop-v-preserved : goal.loop-v-preserved
loop-v-preserved c =
    let p = c.requires in let l = c.loop-v in
    below_more _ l.v l.invariant
    (λ f. sure_not c.if-branch_meets.false (value_tells p.0 p.1 c.args.self.now.number l.v c.child_of.result c.branch_meets.result c.child_of.ensures c.branch_meets.ensures p.3))

pub returns : goal.returns
returns c = λ y f h. c.loop-v.invariant y (omega arith) f
