-- `sheet_calls::call_read::read` meets its contract: past the door, the check and the list the rest is put. Assumes nothing.
use Rattle.std.proofs.Common.{refl, List, ℕ, ◌≡◌, subst, ◌∙◌}
use Rattle.settings.proofs.Answers.{sure}
use Rattle.settings.proofs.Endings.{pass}
use Rattle.promises.specs.Words.{sizes}
use Rattle.promises.specs.Sheet.{sheet_sizes, sheet_rule, GoodSheet}
use Rattle.promises.specs.SheetDeeds.{read_sheet}
use Rattle.promises.specs.RuleDeeds.{looked}
use Rattle.table_calls.proofs.Meeting.{let_in}
use Rattle.table_calls.proofs.Theorems.{puts_one}
use Rattle.table_calls.proofs.Drawn.{room_ends, wrote}
use Rattle.rule_calls.proofs.Edge.{drawn}
use Rattle.rule_settling.specs.Settling.{Puts}
use Rattle.sheet_check.proofs.Answering.{read_on}
use Rattle.sheet_calls.proofs.call_read.read.Goals as goal

pub returns : goal.returns
returns c =
    let e : c.in_ok-sheet.sheet.laid.bytes.now ≡ c.args.sheet.now = c.in_ok-sheet.ensures.same in
    let g : GoodSheet c.args.sheet.now = subst GoodSheet e c.in_ok-sheet.sheet.good in
    let list : sheet_sizes c.args.sheet.now ≡ sizes c.args.t.now =
    subst (λ (s : List ℕ). sheet_sizes s ≡ sizes c.args.t.now) (c.head.ensures ∙ e) (sure c.if-not-same_list.false c.same_list.ensures) in
    let p = puts_one (subst (λ (s : List ℕ). Puts c.args.place (sheet_rule s) c.args.t.now c.put_read.new.t c.put_read.result) e c.put_read.ensures) (sheet_rule c.args.sheet.now) (λ t v. refl) in
    wrote looked drawn {d = read_sheet c.args.place c.args.sheet.now} refl refl p
    (let_in c.door.ensures c.in_ok-door.was (read_on c.in_ok-sheet.ensures.ends g
    (pass (λ n. n list) (room_ends looked drawn c.args.t.now (sheet_rule c.args.sheet.now) c.put_read.result p.ends))))
    (λ e. tt) (λ x e. e)
