-- `table_checks::following::order_ok` meets its contract: the walk from the roots passed meets its nodes in turn. Assumes nothing.
use Rattle.std.proofs.Common.{◌+◌}
use Rattle.table_checks.specs.Walk.{going_to, shape}
use Rattle.table_checks.proofs.Walking.{Walk}
use Rattle.theory.specs.Walk.{scan}
use Rattle.promises.specs.Words.{head, count, sizes}
use Rattle.table_checks.proofs.following.order_ok.Given as goal

abbrev pub invariant-loop-p : goal.invariant-loop-p
invariant-loop-p l = Walk (scan (shape l.first l.t) 0 (sizes l.t)) (λ q. going_to l.first (head l.t (32 + q))) (count l.t) 0 l.p l.d
