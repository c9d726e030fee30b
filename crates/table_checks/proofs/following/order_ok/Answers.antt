-- `table_checks::following::order_ok` meets its contract: the walk from the roots passed meets its nodes in turn. Assumes nothing.
use Rattle.std.proofs.Common.{arith, refl}
use Rattle.table_checks.proofs.Walking.{walk_none, walk_more, walk_lost, order_lost, says_root}
use Rattle.table_checks.proofs.following.order_ok.Goals as goal

pub loop-p-init : goal.loop-p-init
loop-p-init c = walk_none _ _ _ _ (omega arith)

pub returns-in_default : goal.returns-in_default
returns-in_default c =
    let q = c.requires in let l = c.loop-p in
    order_lost _ _ _ _ _ refl (walk_lost l.invariant c.args.n (omega arith) (says_root q.1 l.p (omega arith) c.head_word.ensures c.in_default.ensures))

pub loop-p-preserved : goal.loop-p-preserved
loop-p-preserved c =
    let q = c.requires in let l = c.loop-p in walk_more l.invariant _ (says_root q.1 l.p (omega arith) c.head_word.ensures c.in-Some.ensures)
