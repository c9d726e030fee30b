-- `table_collect::tidy` meets its contract: unlinked, only the nodes that stay are marked; the roots from p to q are copied and set, no more copies than nodes come back. Assumes nothing.
use Rattle.std.proofs.Common.{◌≡◌}
use Rattle.table_collect.specs.Walk.{Open, Rooted, roots_step, Done}
use Rattle.table_sweep.specs.Marks.{kept}
use Rattle.table_collect.proofs.tidy.Given as goal

abbrev pub invariant-loop-q : goal.invariant-loop-q
invariant-loop-q l = Open l.first l.initial.t × Rooted l.first l.n l.initial.t × (l.a ≡ kept l.initial.t) × Done l.first l.initial.t l.t (roots_step l.p l.q)
