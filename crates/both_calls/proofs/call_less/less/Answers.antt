-- `both_calls::call_less::less` meets its contract: past the door the comparison is put. Assumes nothing.
use Rattle.std.proofs.Common.{arith, refl, ap}
use Rattle.both_calls.proofs.Operands.{below_said}
use Rattle.both_calls.proofs.Edge.{wrote_rule}
use Rattle.table_calls.proofs.Meeting.{refuses}
use Rattle.std.proofs.lemmas.Result.{err_from_is_err_and}
use Rattle.both_calls.proofs.Entering.{turned_away, let_in}
use Rattle.table_calls.proofs.Drawn.{room_ends}
use Rattle.promises.specs.RuleDeeds.{looked}
use Rattle.rule_calls.proofs.Edge.{drawn}
use Rattle.table_calls.proofs.Theorems.{puts_one}
use Rattle.theory.specs.Rules.{Rule}
use Rattle.both_calls.proofs.call_less.less.Goals as goal

pub returns-in_err-door : goal.returns-in_err-door
returns-in_err-door c =
    let p = err_from_is_err_and c.from_residual.result c.from_residual.ensures.1 in
    rw (p.1, p.2) (refuses refl refl (turned_away c.door.ensures c.in_err-door.was))

pub returns : goal.returns
returns c =
    let e = c.door.ensures in
    let t = c.in_ok-door.was in
    let v = c.args.t.now in
    let w = c.args.costs.now in
    let p = puts_one c.put_below.ensures _ (λ s k.
    ap (λ (g : Rule). g s) (below_said w c.args.a c.args.b ((e.cost_places t).each 0 (omega arith)) ((e.cost_places t).each 1 (omega arith)))) in
    wrote_rule refl (let_in e t (room_ends looked drawn v _ _ p.ends)) (λ k. tt) (λ y k. k) refl p
