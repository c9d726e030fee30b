-- `sheet_check::checking::find_sheet` meets its contract: what is lost at a test is no sheet, and what passes all is one. Assumes nothing.
use Rattle.std.proofs.Common.{List, ℕ, ◌≡◌, ◌<◌, sym, subst, arith, ◌∙◌}
use Rattle.settings.proofs.Answers.{sure, sure_not}
use Rattle.sheet_bytes.specs.Frame.{Lawful}
use Rattle.sheet_bytes.specs.RuleFrame.{rule_frame}
use Rattle.sheet_bytes.specs.Bytes.{Spans}
use Rattle.promises.specs.Sheet.{byte, GoodSheet}
use Rattle.sheet_check.proofs.Goods.{good_spans, good_form, good_found}
use Rattle.sheet_check.proofs.checking.find_sheet.Goals as goal

pub returns-in_err-head : goal.returns-in_err-head
returns-in_err-head c = rw c.from_residual.ensures (λ g. c.in_err-head.ensures (good_form g).0.opens)

pub returns-in_err-laid : goal.returns-in_err-laid
returns-in_err-laid c =
    rw c.from_residual-in_err-laid.ensures (λ g. c.in_err-laid.ensures (subst (λ (t : List ℕ). Spans t 1) (sym c.in_ok-head.ensures) (good_spans g)))

pub returns-in_err-lawful : goal.returns-in_err-lawful
returns-in_err-lawful c =
    let e = c.in_ok-laid.ensures.0 ∙ c.in_ok-head.ensures in
    rw c.from_residual-in_err-lawful.ensures
    (λ g. c.in_err-lawful.ensures (subst (λ (n : ℕ). Lawful rule_frame c.in_ok-laid.laid.bytes.now n 0) (sym c.in_ok-laid.ensures.1) (good_form (subst GoodSheet (sym e) g)).0))

pub returns-then-not-canonical : goal.returns-then-not-canonical
returns-then-not-canonical c =
    let e : c.in_ok-lawful.lawful.laid.bytes.now ≡ c.args.bytes.now = c.in_ok-lawful.ensures.0 ∙ c.in_ok-laid.ensures.0 ∙ c.in_ok-head.ensures in
    λ g. sure_not c.if-not-canonical.true c.canonical.ensures (good_form (subst GoodSheet (sym e) g)).1

pub invariant_of-result : goal.invariant_of-result
invariant_of-result c =
    let w = c.in_ok-lawful.lawful in
    let d : w.laid.bytes.now ≡ c.in_ok-head.head.bytes.now = c.in_ok-lawful.ensures.0 ∙ c.in_ok-laid.ensures.0 in
    let e : w.laid.bytes.now ≡ c.args.bytes.now = d ∙ c.in_ok-head.ensures in
    let n : w.laid.roots ≡ 1 = c.in_ok-lawful.ensures.1 ∙ c.in_ok-laid.ensures.1 in
    let first : byte w.laid.bytes.now 2 ≡ 1 = subst (λ (t : List ℕ). byte t 2 ≡ 1) (sym d) (sure c.if-not-first_edition.false c.first_edition.ensures) in record {
      good = subst GoodSheet c.in_ok-lawful.ensures.0
          (good_found w.laid.placed w.laid.lays n w.downward w.rooted (λ p. subst (λ (t : List ℕ). byte t p < 256) (sym e) (omega (arith, c.type_inv.bytes p)))
          first (sure c.if-not-canonical.false c.canonical.ensures));
      one = c.in_ok-laid.ensures.1;
    }
