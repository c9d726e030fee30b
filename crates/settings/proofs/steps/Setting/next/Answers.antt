-- `Setting::next` meets its contract: `Stepping` says so of each return. Assumes nothing.
use Rattle.std.proofs.Common.{ap}
use Rattle.settings.proofs.Stepping.{step_moved, step_last}
use Rattle.settings.specs.declared.steps.Setting.{Setting}
use Rattle.settings.proofs.steps.Setting.next.Goals as goal

pub returns : goal.returns
returns c =
    step_moved c.args.features.now c.args.self c.if-not-inside.ensures
    c.of-clean.result.values c.in-Some.values (ap (λ (s : Setting). s.values) c.of-clean.ensures) c.in-Some.ensures

pub returns-in_default : goal.returns-in_default
returns-in_default c =
    rw c.zero.ensures (step_last c.args.features.now c.args.self c.if-not-inside.ensures
    c.of-clean.result.values (ap (λ (s : Setting). s.values) c.of-clean.ensures) c.in_default.ensures)
