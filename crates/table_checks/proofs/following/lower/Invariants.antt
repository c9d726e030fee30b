-- `table_checks::following::lower` meets its contract: each branch passed sits below the node. Assumes nothing.
use Rattle.std.proofs.Common.{ℕ, ◌+◌, ◌<◌}
use Rattle.table_words.specs.Words.{way_of}
use Rattle.promises.specs.Words.{feature, body}
use Rattle.promises.specs.Sound.{Sits}
use Rattle.table_checks.proofs.following.lower.Given as goal

abbrev pub invariant-loop-v : goal.invariant-loop-v
invariant-loop-v l = (x : ℕ) → x < l.v → Sits l.first l.t l.i (feature l.t l.i + 1) (way_of l.first (body l.t l.i) x)
