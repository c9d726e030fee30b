-- `sheets::call_look_up_all::rows_ok` meets its contract. The invariant: the first rows are settings, as many as were tested, and end at `from`. Assumes nothing.
use Rattle.std.proofs.Common.{sym, arith, ◌∙◌}
use Rattle.settings.proofs.Answers.{sure, sure_not}
use Rattle.sheet_bytes.proofs.Opening.{open_length}
use Rattle.sheets.proofs.Rows.{tested_none, tested_more, rows_short, rows_bad, rows_tell}
use Rattle.sheets.proofs.call_look_up_all.rows_ok.Goals as goal

pub rows-init : goal.rows-init
rows-init c = tested_none _ _

pub overflow_sub-settings : goal.overflow_sub-settings
overflow_sub-settings c = omega (arith, c.rows.invariant.inside)

pub returns-then-settings-from : goal.returns-then-settings-from
returns-then-settings-from c = rows_short c.rows.invariant _ (c.features-n.ensures.0 ∙ sym (open_length c.args.head.opens)) c.rows-test.true c.if-settings-from.true

pub returns-then-not-fits : goal.returns-then-not-fits
returns-then-not-fits c =
    rows_bad c.rows.invariant _ (c.features-n.ensures.0 ∙ sym (open_length c.args.head.opens)) c.rows-test.true (sure_not c.if-not-fits.true c.fits.ensures)

pub rows-preserved : goal.rows-preserved
rows-preserved c =
    tested_more c.rows.invariant _ (c.features-n.ensures.0 ∙ sym (open_length c.args.head.opens)) (omega (arith, c.rows.invariant.inside)) (sure c.if-not-fits.false c.fits.ensures)

pub returns : goal.returns
returns c = rows_tell c.rows.invariant (omega arith)
