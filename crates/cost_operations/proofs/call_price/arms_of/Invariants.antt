-- `cost_operations::call_price::arms_of` meets its contract. The invariant: the branches written add the prices passed, and all go to the end. Assumes nothing.
use Rattle.std.proofs.Common.{◌≡◌, ℕ, ◌<◌, pos, length, get_or}
use Rattle.cost_words.specs.Words.{tos, adding}
use Rattle.promises.specs.Integers.{int}
use Rattle.cost_operations.proofs.call_price.arms_of.Given as goal

abbrev pub invariant-loop-v : goal.invariant-loop-v
invariant-loop-v l =
    (length l.arms ≡ 8) × ((u : ℕ) → u < 8 → tos l.arms u ≡ 0) × ((u : ℕ) → u < l.v → int (adding l.arms u) ≡ get_or l.prices u (pos 0))
