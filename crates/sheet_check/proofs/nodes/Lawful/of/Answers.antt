-- `sheet_check::nodes::Lawful::of` meets its contract: the branches of each node go down, and the roots are tested. Assumes nothing.
use Rattle.std.proofs.Common.{rules, arith}
use Rattle.settings.proofs.Answers.{sure, sure_not}
use Rattle.promises.specs.Sheet.{SheetLower as Lower}
use Rattle.sheet_check.proofs.All.{tells_all}
use Rattle.sheet_check.proofs.Wording.{lawful_downward, lawful_rooted}
use Rattle.sheet_check.proofs.nodes.Lawful.of.Goals.{else-all-via-then-all+else-roots_ok, else-all-via-else-all}
use Rattle.sheet_check.proofs.nodes.Lawful.of.Goals as goal

pub invariant_of-result : goal.invariant_of-result
invariant_of-result c =
    let down = sure c.if-all.true (tells_all c.count.result _ _ c.all.result (Lower c.args.laid.bytes.now) c.all.ensures.ran (λ x q k. search rules) (λ x q k. search rules)) in
    record { downward = record { lower = λ i h. down i (omega (arith, c.count.ensures.0)) }; rooted = sure c.if-roots_ok.true c.roots_ok.ensures }

pub returns-else-all : goal.returns-else-all
returns-else-all c =
    elim c.else-all.branch [
      | else-all-via-then-all+else-roots_ok w ↦ (λ q. sure_not w.if-roots_ok.false w.roots_ok.ensures (lawful_rooted q))
      | else-all-via-else-all w ↦
          (λ q. sure_not w.if-all.false (tells_all c.count.result _ _ c.all.result (Lower c.args.laid.bytes.now) c.all.ensures.ran (λ x q k. search rules) (λ x q k. search rules))
          (λ i h. (lawful_downward q).lower i (omega (arith, c.count.ensures.0))))
    ]
