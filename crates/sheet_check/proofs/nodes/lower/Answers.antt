-- `sheet_check::nodes::lower` meets its contract: each branch lies below the node. Assumes nothing.
use Rattle.std.proofs.Common.{rules, ℕ, ◌+◌, refl, ap, sym, arith}
use Rattle.settings.proofs.Answers.{retell}
use Rattle.promises.specs.Sheet.{SheetSits as Below, sheet_branch as branch}
use Rattle.sheet_check.proofs.All.{tells_all}
use Rattle.sheet_check.proofs.Diagrams.{same_below}
use Rattle.sheet_check.proofs.nodes.lower.Goals as goal

pub returns : goal.returns
returns c =
    let s = c.args.laid.bytes.now in let z = c.width.ensures.0 in
    let e = ap (λ (x : ℕ). x + 1) c.feature.ensures.0 in
    retell c.all.result (λ h. record { lower = λ v l. same_below refl e refl (h v (omega (arith, z))) })
    (λ l v h. same_below refl (sym e) refl (l.lower v (omega (arith, z))))
    (tells_all c.width.result _ _ c.all.result (λ v. Below s c.args.i (c.feature.result + 1) (branch s c.args.i v))
    c.all.ensures.ran (λ x q k. search rules) (λ x q k. search rules))
