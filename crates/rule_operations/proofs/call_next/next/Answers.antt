-- `rule_operations::call_next::next` meets its contract: the number and the setting are tested past the door, and the search tells the rest. Assumes nothing.
use Rattle.std.proofs.Common.{arith}
use Rattle.rule_operations.proofs.Firsts.{next_meets}
use Rattle.rule_operations.proofs.call_next.next.Goals as goal

pub returns : goal.returns
returns c =
    rw c.ok_or.ensures.value (next_meets c.first_with.result c.door.ensures c.in_ok-door.was (omega arith) c.if-not-setting_fits.ensures c.first_with.ensures)
