-- `cost_nodes::lowered` meets its contract: in the loop the first v are lowered, and the others are 0. Assumes nothing.
use Rattle.std.proofs.Common.{◌-ℤ◌, length, ℕ, ◌≤◌, ◌<◌, ◌≡◌}
use Rattle.cost_words.specs.Words.{tos, adding}
use Rattle.promises.specs.Integers.{int}
use Rattle.cost_nodes.proofs.lowered.Given as goal

abbrev pub invariant-loop-v : goal.invariant-loop-v
invariant-loop-v l =
    (length l.list ≡ 8) × ((u : ℕ) → u < l.v → tos l.list u ≡ tos l.arms u) × ((u : ℕ) → u < l.v → int (adding l.list u) ≡ int (adding l.arms u) -ℤ int (adding l.arms 0))
    × ((u : ℕ) → l.v ≤ u → u < 8 → tos l.list u ≡ 0) × ((u : ℕ) → l.v ≤ u → u < 8 → adding l.list u ≡ 0)
