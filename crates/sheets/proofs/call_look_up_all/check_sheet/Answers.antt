-- `sheets::call_look_up_all::check_sheet` meets its contract: the number that the look up of no values returns tells NEWER and BAD SHEET. Assumes nothing.
use Rattle.sheets.proofs.Testing.{tells_newer, tells_bad, tells_good}
use Rattle.sheets.proofs.call_look_up_all.check_sheet.Goals as goal

pub returns-then-answer-eq-NEWER : goal.returns-then-answer-eq-NEWER
returns-then-answer-eq-NEWER c = tells_newer c.lampgrotto_look_up-answer.ensures c.if-answer-eq-NEWER.true

pub returns-then-answer-eq-BAD_SHEET : goal.returns-then-answer-eq-BAD_SHEET
returns-then-answer-eq-BAD_SHEET c = tells_bad c.lampgrotto_look_up-answer.ensures c.if-answer-eq-BAD_SHEET.true
