-- `rule_sound::alike` meets its contract: each branch passed equals branch 0. Assumes nothing.
use Rattle.std.proofs.Common.{ℕ, ◌<◌, ◌≡◌}
use Rattle.promises.specs.Words.{body}
use Rattle.rule_sound.proofs.alike.Given as goal

abbrev pub invariant-loop-v : goal.invariant-loop-v
invariant-loop-v l = (x : ℕ) → x < l.v → body l.t l.i x ≡ body l.t l.i 0
