-- `sheets::call_look_up_all::placed` meets its contract: the nodes of good bytes lie one after the other. Assumes nothing.
use Rattle.sheet_check.proofs.Goods.{good_spans, good_form}
use Rattle.sheets.proofs.call_look_up_all.placed.Goals as goal

pub invariant_of-head : goal.invariant_of-head
invariant_of-head c = record { opens = (good_form c.requires).0.opens }

pub unreachable-requires : goal.unreachable-requires
unreachable-requires c = c.in_default.ensures (good_spans c.requires)
