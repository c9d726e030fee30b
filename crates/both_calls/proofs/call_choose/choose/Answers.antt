-- `both_calls::call_choose::choose` meets its contract: past the door the choice, which never leaves its range, is put. Assumes nothing.
use Rattle.std.proofs.Common.{arith, refl, ap}
use Rattle.both_calls.proofs.Operands.{choice_said, choice_within}
use Rattle.both_calls.proofs.Edge.{wrote_cost}
use Rattle.both_calls.proofs.Entering.{turned_away, let_in}
use Rattle.table_calls.proofs.Drawn.{room_ends}
use Rattle.promises.specs.CostDeeds.{cost_looked}
use Rattle.cost_calls.proofs.Edge.{drawn}
use Rattle.table_calls.proofs.Meeting.{refuses}
use Rattle.table_calls.proofs.Theorems.{puts_one}
use Rattle.theory_costs.proofs.Range.{within_stays}
use Rattle.settings.proofs.Endings.{pass}
use Rattle.theory.specs.Costs.{Cost}
use Rattle.std.proofs.lemmas.Result.{err_from_is_err_and}
use Rattle.both_calls.proofs.call_choose.choose.Goals as goal

pub returns-in_err-door : goal.returns-in_err-door
returns-in_err-door c =
    let p = err_from_is_err_and c.from_residual.result c.from_residual.ensures.1 in
    rw (p.1, p.2) (refuses refl refl (turned_away c.door.ensures c.in_err-door.was))

pub returns : goal.returns
returns c =
    let e = c.door.ensures in
    let t = c.in_ok-door.was in
    let v = c.args.rules.now in
    let w = c.args.t.now in
    let ha = (e.cost_places t).each 1 (omega arith) in
    let hb = (e.cost_places t).each 2 (omega arith) in
    let hq = (e.rule_places t).each 0 (omega arith) in
    let p = puts_one c.put_choice.ensures _ (λ s k. ap (λ (g : Cost). g s) (choice_said w c.args.a c.args.b ha hb v c.args.rule hq)) in
    wrote_cost refl (let_in e t (pass (within_stays (choice_within w c.args.a c.args.b ha hb v c.args.rule hq (e.costs t))) (room_ends cost_looked drawn w _ _ p.ends)))
    (λ k. tt) (λ y k. k) refl p
