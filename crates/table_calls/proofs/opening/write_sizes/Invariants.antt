-- `table_calls::opening::write_sizes` meets its contract: the sizes passed stand from word 3 on, the other words are kept. Assumes nothing.
use Rattle.std.proofs.Common.{length, get_or, ℕ, ◌+◌, ◌≤◌, ◌<◌, ◌≡◌}
use Rattle.table_calls.proofs.opening.write_sizes.Given as goal

abbrev pub invariant-loop-k : goal.invariant-loop-k
invariant-loop-k l =
    (length l.t ≡ length l.initial.t) × ((i : ℕ) → i < l.k → get_or l.t (3 + i) 0 ≡ get_or l.features i 0) ×
    ((i : ℕ) → i < 3 → get_or l.t i 0 ≡ get_or l.initial.t i 0) × ((i : ℕ) → 3 + l.k ≤ i → get_or l.t i 0 ≡ get_or l.initial.t i 0)
