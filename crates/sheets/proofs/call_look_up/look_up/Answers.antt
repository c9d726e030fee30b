-- `sheets::call_look_up::look_up` meets its contract: the check's refusal is handed on; then the setting is tested, and the way ends at the number. Assumes nothing.
use Rattle.std.proofs.Common.{refl, List, ℕ, ◌≡◌, ap, subst, ◌∙◌}
use Rattle.theory.specs.Settings.{Valid}
use Rattle.theory.specs.Questions.{asked}
use Rattle.promises.specs.Sheet.{sheet_sizes, sheet_rule, GoodSheet}
use Rattle.settings.proofs.Answers.{sure}
use Rattle.settings.proofs.Endings.{pass}
use Rattle.table_calls.proofs.Meeting.{takes}
use Rattle.sheet_check.proofs.Answering.{read_on}
use Rattle.sheets.proofs.Answering.{looked_up}
use Rattle.sheets.proofs.call_look_up.look_up.Goals as goal

pub returns : goal.returns
returns c =
    let t = c.args.setting.now in
    let e : c.in_ok-sheet.sheet.laid.bytes.now ≡ c.args.sheet.now = c.in_ok-sheet.ensures.same in
    let g : GoodSheet c.args.sheet.now = subst GoodSheet e c.in_ok-sheet.sheet.good in
    let v : Valid (sheet_sizes c.args.sheet.now) t = subst (λ (s : List ℕ). Valid (sheet_sizes s) t) (c.head.ensures ∙ e) (sure c.if-not-fits.false c.fits.ensures) in
    takes refl (pass (λ n. n tt) (read_on c.in_ok-sheet.ensures.ends g (pass (λ n. n v) refl))) tt
    (looked_up c.args.sheet.now t c.walk.result.number c.walk.result.asked (c.walk.ensures.0 ∙ ap (λ (s : List ℕ). (sheet_rule s t).end) e)
    (c.walk.ensures.1 ∙ ap (λ (s : List ℕ). asked (sheet_sizes s) (sheet_rule s) t) e))
