-- `rule_next::Search::complete` meets its contract: the smallest value that leads to the number, then the first of all below it; fewer features are left each time. Assumes nothing.
use Rattle.std.proofs.Common.{arith, rules, ◌<◌}
use Rattle.rule_next.specs.Marks.{Least}
use Rattle.rule_next.proofs.Seeking.{complete_end, complete_more}
use Rattle.rule_next.proofs.Marking.{leads_next, smallest_there}
use Rattle.rule_next.proofs.Stepping.{spot_place, spot_next}
use Rattle.promises.specs.Words.{features}
use Rattle.rule_next.proofs.Search.+complete.Goals as goal

pub returns-then-features_word-k : goal.returns-then-features_word-k
returns-then-features_word-k t c = complete_end c.requires.0 c.args.self.now.number c.args.from (omega arith) (search rules) c.requires.2

pub unwrap-v-requires : goal.unwrap-v-requires
unwrap-v-requires t c = smallest_there c.requires.0 (omega arith) c.args.self.now.number c.smallest.result c.requires.2 c.smallest.ensures

pub child_of-requires : goal.child_of-requires
child_of-requires t c =
    let q : Least c.args.self.now.t.now c.args.self.now.number c.args.k c.args.b 0 c.unwrap-v.result = rw c.unwrap-v.ensures at c.smallest.ensures in
    (spot_place c.requires.0, omega arith, q.below)

pub complete-requires : goal.complete-requires
complete-requires t c =
    let p = c.requires in let l : c.args.k < features c.args.self.now.t.now = omega arith in
    let q : Least c.args.self.now.t.now c.args.self.now.number c.args.k c.args.b 0 c.unwrap-v.result = rw c.unwrap-v.ensures at c.smallest.ensures in (
      omega (arith, p.0.sound.header.few),
      (
        spot_next p.0 c.unwrap-v.result c.child_of.result c.child_of.ensures l,
        p.1,
        leads_next p.0 l c.args.self.now.number c.unwrap-v.result c.child_of.result c.child_of.ensures q.leads,
      ),
    )

pub returns : goal.returns
returns t c =
    complete_more c.requires.0 c.args.self.now.number c.args.from (omega arith) (search rules) c.unwrap-v.result c.child_of.result c.complete.result c.child_of.ensures
    (rw c.unwrap-v.ensures at c.smallest.ensures) c.complete.ensures
