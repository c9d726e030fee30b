-- `rule_next::Search::seek` meets its contract: the same value with what follows it, or else the smallest greater one with the first of all; fewer features are left each time. Assumes nothing.
use Rattle.std.proofs.Common.{arith, rules, ◌<◌}
use Rattle.rule_next.proofs.Seeking.{seek_end, seek_valid, seek_same, seek_none, seek_greater}
use Rattle.rule_next.proofs.Marking.{leads_next}
use Rattle.rule_next.proofs.Stepping.{spot_place, spot_next}
use Rattle.promises.specs.Words.{features}
use Rattle.rule_next.proofs.Search.+seek.Goals as goal

pub returns-then-features_word-k : goal.returns-then-features_word-k
returns-then-features_word-k t c = rw c.then_some.ensures (seek_end c.requires.0 c.args.self.now.number c.args.from (omega arith) (search rules))

pub child_of-requires : goal.child_of-requires
child_of-requires t c =
    let p = c.requires in
    (spot_place p.0, omega arith, rw c.from-v.ensures (seek_valid p.0 c.args.self.now.number c.args.from (omega arith) (search rules) p.2).0)

pub seek-requires : goal.seek-requires
seek-requires t c =
    let p = c.requires in let l : c.args.k < features c.args.self.now.t.now = omega arith in (
      omega (arith, p.0.sound.header.few),
      (spot_next p.0 c.from-v.result c.child_of.result c.child_of.ensures l, p.1, (seek_valid p.0 c.args.self.now.number c.args.from l (search rules) p.2).1),
    )

pub returns-in-Some : goal.returns-in-Some
returns-in-Some t c =
    seek_same c.requires.0 c.args.self.now.number c.args.from (omega arith) (search rules) c.from-v.result c.child_of.result c.from-v.ensures c.child_of.ensures c.requires.2
    c.in-Some.same c.in-Some.ensures

pub smallest-requires : goal.smallest-requires
smallest-requires t c =
    let p = c.requires in
    (p.0, omega arith, rw c.from-v.ensures (let h = (seek_valid p.0 c.args.self.now.number c.args.from (omega arith) (search rules) p.2).0 in omega arith), p.1)

pub returns-in_err-w : goal.returns-in_err-w
returns-in_err-w t c =
    rw c.from_residual.ensures
    (seek_none c.requires.0 c.args.self.now.number c.args.from (omega arith) (search rules) c.from-v.result c.child_of.result c.from-v.ensures c.child_of.ensures c.requires.2
    c.in_default.ensures c.in_err-w.ensures)

pub child_of-requires-2 : goal.child_of-requires-2
child_of-requires-2 t c = (spot_place c.requires.0, omega arith, c.in_ok-w.ensures.below)

pub complete-requires : goal.complete-requires
complete-requires t c =
    let p = c.requires in let l : c.args.k < features c.args.self.now.t.now = omega arith in (
      spot_next p.0 c.in_ok-w.w c.child_of-2.result c.child_of-2.ensures l,
      p.1,
      leads_next p.0 l c.args.self.now.number c.in_ok-w.w c.child_of-2.result c.child_of-2.ensures c.in_ok-w.ensures.leads,
    )

pub returns : goal.returns
returns t c =
    seek_greater c.requires.0 c.args.self.now.number c.args.from (omega arith) (search rules) c.from-v.result c.child_of.result c.from-v.ensures c.child_of.ensures c.requires.2
    c.in_default.ensures c.in_ok-w.w c.child_of-2.result c.complete.result c.in_ok-w.ensures c.child_of-2.ensures c.complete.ensures
