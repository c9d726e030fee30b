-- `sheet_check::twins::same` meets its contract: the features are equal, and so is each branch. Assumes nothing.
use Rattle.std.proofs.Common.{rules, ◌≡◌, sym, arith, ◌∙◌}
use borrow.Author.Tests.{tests}
use Rattle.settings.proofs.Answers.{retell}
use Rattle.promises.specs.Sheet.{sheet_branch as branch}
use Rattle.sheet_check.proofs.All.{tells_all}
use Rattle.sheet_check.proofs.twins.same.Goals as goal

pub returns-then-feature : goal.returns-then-feature
returns-then-feature c =
    let s = c.args.laid.bytes.now in let z = c.width.ensures.0 in
    let e = sym c.feature.ensures.0 ∙ c.if-feature.true ∙ c.feature-2.ensures.0 in
    retell c.all.result (λ h. record { feature = e; each = λ v l. h v (omega (arith, z)) }) (λ q v l. q.each v (omega (arith, z)))
    (tells_all c.width.result _ _ c.all.result (λ v. branch s c.args.i v ≡ branch s c.args.j v)
    c.all.ensures.ran (λ x q k. search (rules, tests)) (λ x q k. search (rules, tests)))
