-- `sheet_check::order::visit_roots` meets its contract: what is left of the roots is the whole walk. Assumes nothing.
use Rattle.std.proofs.Common.{arith}
use Rattle.sheet_check.proofs.Walks.{rounds_more, rounds_lost, rounds_all}
use Rattle.sheet_check.proofs.order.visit_roots.Goals as goal

pub returns-in_err-d : goal.returns-in_err-d
returns-in_err-d c =
    let w = c.args.lawful.now in
    rw c.from_residual.ensures (rounds_lost w.laid.lays w.rooted c.loop-r.r (omega arith) c.root.ensures.0 c.loop-r.invariant c.in_err-d.ensures)

pub loop-r-preserved : goal.loop-r-preserved
loop-r-preserved c =
    let w = c.args.lawful.now in rounds_more w.laid.lays w.rooted c.loop-r.r (omega arith) c.root.ensures.0 c.loop-r.invariant c.in_ok-d.ensures

pub returns : goal.returns
returns c = rounds_all c.args.lawful.now.laid.lays c.loop-r.invariant (omega arith)
