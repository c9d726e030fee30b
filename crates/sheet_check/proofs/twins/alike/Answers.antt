-- `sheet_check::twins::alike` meets its contract: each branch equals branch 0. Assumes nothing.
use Rattle.std.proofs.Common.{rules, ◌≡◌, sym, arith, ◌∙◌}
use borrow.Author.Tests.{tests}
use Rattle.settings.proofs.Answers.{retell}
use Rattle.promises.specs.Sheet.{sheet_branch as branch}
use Rattle.sheet_check.proofs.All.{tells_all}
use Rattle.sheet_check.proofs.twins.alike.Goals as goal

pub returns : goal.returns
returns c =
    let s = c.args.laid.bytes.now in let z = c.width-z.ensures.0 in let e = c.branch-first.ensures.0 in
    retell c.all.result (λ h. record { alike = λ v l. h v (omega (arith, z)) ∙ e }) (λ q v l. q.alike v (omega (arith, z)) ∙ sym e)
    (tells_all c.width-z.result _ _ c.all.result (λ v. branch s c.args.i v ≡ c.branch-first.result)
    c.all.ensures.ran (λ x q k. search (rules, tests)) (λ x q k. search (rules, tests)))
