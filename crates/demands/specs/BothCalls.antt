-- The calls of one who holds both tables: those on either, and those that are lent both. Assumes nothing.
use Rattle.std.specs.Prelude.{ℕ}
use Rattle.promises.specs.Deed.{Deed}
use Rattle.promises.specs.Table.{table}
use Rattle.promises.specs.RuleDeeds.{ruled}
use Rattle.promises.specs.CostDeeds.{costed}
use Rattle.promises.specs.BothDeeds as D
use Rattle.promises.specs.BothDeeds.{both}
use Rattle.demands.specs.Ground.{together}
use Rattle.demands.specs.TableGround.{table_ground}
use Rattle.demands.specs.Does.{on_first, on_second}
use Rattle.demands.specs.Run.{Part}
use Rattle.demands.specs.RuleCalls as R
use Rattle.demands.specs.CostCalls as C

pub data Call : Type 0 where
  on_rules_call : R.Call → Call
  on_costs_call : C.Call → Call
  choose_call : (place rule a b : ℕ) → Call
  less_call : (place a b : ℕ) → Call
  lowest_call : (place rule : ℕ) → Call

abbrev pub deed : Call → Deed both
deed (on_rules_call c) = on_first (table costed) (R.deed c)
deed (on_costs_call c) = on_second (table ruled) (C.deed c)
deed (choose_call p q a b) = D.choose p q a b
deed (less_call p a b) = D.less_than p a b
deed (lowest_call a q) = D.lowest a q

abbrev pub on_both : Part
on_both = record { loan = both; basis = together (table_ground ruled) (table_ground costed); Call = Call; deed = deed }
