-- `table_checks::following::roots_ok` meets its contract: each root passed sits. Assumes nothing.
use Rattle.std.proofs.Common.{ℕ, ◌+◌, ◌<◌}
use Rattle.promises.specs.Words.{head, count}
use Rattle.promises.specs.Sound.{Sits}
use Rattle.table_checks.proofs.following.roots_ok.Given as goal

abbrev pub invariant-loop-p : goal.invariant-loop-p
invariant-loop-p l = (x : ℕ) → x < l.p → Sits l.first l.t (count l.t) 0 (head l.t (32 + x))
