-- `table_checks::same` meets its contract: the words passed are equal. Assumes nothing.
use Rattle.std.proofs.Common.{ℕ, ◌<◌, ◌≡◌}
use Rattle.promises.specs.Words.{word}
use Rattle.table_checks.proofs.same.Given as goal

abbrev pub invariant-loop-v : goal.invariant-loop-v
invariant-loop-v l = (x : ℕ) → x < l.v → word l.t l.i x ≡ word l.t l.j x
