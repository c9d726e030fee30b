-- `rule_next::first_with` meets its contract: the root is sought from the given setting, whose places past the features are 0. Assumes nothing.
use mathlib.Core.Path.{◌∙◌}
use Rattle.rule_next.proofs.Seeking.{seek_start, answer_none, answer_some}
use Rattle.rule_next.proofs.Stepping.{spot_root}
use Rattle.rule_next.proofs.first_with.Goals as goal

pub seek-requires : goal.seek-requires
seek-requires c =
    let a = c.args in let p = c.requires in (
      spot_root p.0 a.place c.root_word.result p.1 c.root_word.ensures,
      (c.fill.ensures.0 ∙ c.new-leads.ensures.0, rw c.new-leads.ensures.0 at c.fill.ensures.1),
      rw c.of.ensures (seek_start p.0 a.place a.number a.setting.now p.2),
    )

pub returns-in_err-values : goal.returns-in_err-values
returns-in_err-values c =
    let a = c.args in let p = c.requires in
    rw c.from_residual.ensures
    (answer_none p.0 a.place a.number a.setting.now p.2 c.root_word.result c.root_word.ensures (rw c.of.ensures at c.in_err-values.ensures))

pub returns : goal.returns
returns c =
    let a = c.args in let p = c.requires in
    answer_some p.0 a.place a.number a.setting.now p.2 c.root_word.result c.root_word.ensures c.in_ok-values.values (rw c.of.ensures at c.in_ok-values.ensures)
