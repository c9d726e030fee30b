-- `table_sweep::cut_heads` meets its contract: the chains whose heads are before word h begin below a, and every other word is kept (Cutting). Assumes nothing.
use Rattle.std.proofs.Common.{◌≤◌}
use Rattle.table_sweep.proofs.Cutting.{Cutting}
use Rattle.table_sweep.specs.Sweeping.{Linked}
use Rattle.table_sweep.proofs.cut_heads.Given as goal

abbrev pub invariant-loop-h : goal.invariant-loop-h
invariant-loop-h l = (4096 ≤ l.h) × Linked l.initial.t l.a × Cutting l.initial.t l.t l.a l.h
