-- What C hears of each call, where it lent the words out: its promise is that of an answer which meets the deed. Assumes nothing.
use Rattle.std.specs.Prelude.{List, ℕ}
use Rattle.promises.specs.ForC.{Heard, tell_ending, tell_looked, tell_cost_looked, tell_compared, tell_tallied, tell_spelled, tell_counted, tell_met, tell_found, tell_stepped}
use Rattle.promises.specs.ForC.{tell_filed, tell_returned, tell_filled}
use Rattle.demands.specs.RuleCalls as R
use Rattle.demands.specs.CostCalls as C
use Rattle.demands.specs.BothCalls as B
use Rattle.demands.specs.ByteCalls as Y

abbrev pub rule_tell : (c : R.Call) → List ℕ → (R.deed c).Result → Heard
rule_tell (R.open_call S cap n) out = tell_ending out
rule_tell (R.constant_call p x) out = tell_ending out
rule_tell (R.copy_call p q) out = tell_ending out
rule_tell (R.literal_call p f x) out = tell_spelled out
rule_tell (R.case_call p q l) out = tell_ending out
rule_tell (R.apply_call p x a b) out = tell_ending out
rule_tell (R.restrict_call p q f x) out = tell_ending out
rule_tell (R.forget_call p q f) out = tell_ending out
rule_tell (R.read_call p s) out = tell_ending out
rule_tell (R.look_up_call p s) out = tell_looked out
rule_tell (R.same_call p q) out = tell_compared out
rule_tell R.tally_call out = tell_tallied out
rule_tell (R.count_call p x) out = tell_counted out
rule_tell (R.next_call p x s) out = tell_met out
rule_tell (R.write_call p s) out = tell_filed out

abbrev pub cost_tell : (c : C.Call) → List ℕ → (C.deed c).Result → Heard
cost_tell (C.open_call S cap n) out = tell_ending out
cost_tell (C.constant_call p x) out = tell_ending out
cost_tell (C.copy_call p q) out = tell_ending out
cost_tell (C.price_call p f l) out = tell_ending out
cost_tell (C.add_call p a b) out = tell_ending out
cost_tell (C.subtract_call p a b) out = tell_ending out
cost_tell (C.smaller_call p a b) out = tell_ending out
cost_tell (C.larger_call p a b) out = tell_ending out
cost_tell (C.scale_call p a c) out = tell_ending out
cost_tell (C.look_up_call p s) out = tell_cost_looked out
cost_tell (C.same_call p q) out = tell_compared out
cost_tell C.tally_call out = tell_tallied out

abbrev pub both_tell : (c : B.Call) → List ℕ → (B.deed c).Result → Heard
both_tell (B.on_rules_call c) out = rule_tell c out
both_tell (B.on_costs_call c) out = cost_tell c out
both_tell (B.choose_call p q a b) out = tell_ending out
both_tell (B.less_call p a b) out = tell_ending out
both_tell (B.lowest_call a q) out = tell_found out

abbrev pub byte_tell : (c : Y.Call) → List ℕ → (Y.deed c).Result → Heard
byte_tell (Y.step_call S s) out = tell_stepped out
byte_tell (Y.look_up_call s t) out = tell_returned out
byte_tell (Y.look_up_all_call s t numbers) out = tell_filled
