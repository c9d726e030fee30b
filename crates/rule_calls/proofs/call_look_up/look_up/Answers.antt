-- `rule_calls::call_look_up::look_up` meets its contract: what the door refuses is refused, and the way ends at the number. Assumes nothing.
use Rattle.std.proofs.Common.{refl, ap}
use Rattle.rule_calls.proofs.Edge.{drawn}
use Rattle.table_calls.proofs.Drawn.{looks}
use Rattle.promises.specs.RuleDeeds.{looked}
use Rattle.theory.specs.Rules.{says}
use Rattle.rule_calls.proofs.call_look_up.look_up.Goals as goal

pub returns : goal.returns
returns c =
    looks looked drawn c.door.ensures c.in_ok-door.was
    c.if-not-setting_fits.ensures
    refl (ap says c.walk.ensures.0) c.walk.ensures.1
