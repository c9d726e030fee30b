-- `table_collect::kept_by` meets its contract: a is 1 + the highest node that is a root of the first q places. Assumes nothing.
use Rattle.std.proofs.Common.{◌≡◌}
use Rattle.table_sweep.specs.Marks.{highest}
use Rattle.table_collect.proofs.kept_by.Given as goal

abbrev pub invariant-loop-q : goal.invariant-loop-q
invariant-loop-q l = l.a ≡ highest l.first l.t l.q
