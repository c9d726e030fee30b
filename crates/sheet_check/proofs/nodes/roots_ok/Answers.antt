-- `sheet_check::nodes::roots_ok` meets its contract: each root lies below the nodes. Assumes nothing.
use Rattle.std.proofs.Common.{rules, refl, sym}
use Rattle.settings.proofs.Answers.{retell}
use Rattle.sheet_bytes.specs.Frame.{root_spot}
use Rattle.sheet_bytes.specs.RuleFrame.{rule_frame}
use Rattle.promises.specs.Sheet.{triple as word, SheetSits as Below}
use Rattle.sheet_check.proofs.All.{tells_all}
use Rattle.sheet_check.proofs.Diagrams.{same_below}
use Rattle.sheet_check.proofs.nodes.roots_ok.Goals as goal

pub returns : goal.returns
returns c =
    let s = c.args.laid.bytes.now in let e = c.count-m.ensures.0 in
    retell c.all.result (λ h. record { rooted = λ r l. same_below e refl refl (h r l) }) (λ q r l. same_below (sym e) refl refl (q.rooted r l))
    (tells_all c.args.laid.roots _ _ c.all.result (λ r. Below s c.count-m.result 0 (word s (root_spot rule_frame s r)))
    c.all.ensures.ran (λ x q k. search rules) (λ x q k. search rules))
