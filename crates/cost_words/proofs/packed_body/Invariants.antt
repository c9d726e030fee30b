-- `cost_words::packed_body` meets its contract: the words passed stand in the list. Assumes nothing.
use Rattle.std.proofs.Common.{length, get_or, ℕ, ◌<◌, ◌≡◌}
use Rattle.cost_words.specs.Words.{packed, tos, adding}
use Rattle.cost_words.proofs.packed_body.Given as goal

abbrev pub invariant-loop-v : goal.invariant-loop-v
invariant-loop-v l = (length l.list ≡ 12) × ((u : ℕ) → u < l.v → get_or l.list u 0 ≡ packed (tos l.arms) (adding l.arms) u)
