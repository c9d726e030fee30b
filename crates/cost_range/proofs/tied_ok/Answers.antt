-- `cost_range::tied_ok` meets its contract: what the ends allow is in range; else the result is exactly if its own ends are. Assumes nothing.
use Rattle.std.proofs.Common.{refl}
use Rattle.settings.proofs.Answers.{sure, retell}
use Rattle.cost_nodes.proofs.Reading.{pos_from}
use Rattle.cost_range.proofs.Meeting.{span_side, met_within}
use Rattle.cost_range.proofs.Ranging.{ends_tell}
use Rattle.cost_range.proofs.tied_ok.Goals as goal

pub returns-then-ends_inside : goal.returns-then-ends_inside
returns-then-ends_inside c =
    let p = c.span_of in
    let q = c.span_of-2 in (
      refl,
      retell c.ends_inside.result
          (met_within c.args.minus _ _ _ p.result.low p.result.high q.result.low q.result.high (span_side _ _ _ _ p.ensures)
          (span_side _ _ _ _ q.ensures) c.met_ends.result c.met_ends.ensures)
          (λ h. sure c.if-ends_inside.true c.ends_inside.ensures)
          c.ends_inside.ensures,
    )

pub returns-else-ends_inside : goal.returns-else-ends_inside
returns-else-ends_inside c =
    let z = c.whole_ends in
    let e = c.ends_inside-else-ends_inside in
    (z.ensures.0, ends_tell _ (pos_from _ 0 c.requires.0.holds) _ z.result z.ensures.1 e.result e.ensures)
