-- `table_memory::remember_at` meets its contract: the key's first j words are written, the words around the entry are as before. Assumes nothing.
use Rattle.std.proofs.Common.{length, get_or, ℕ, ◌+◌, ◌≤◌, ◌<◌, ◌≡◌}
use Rattle.table_memory.proofs.remember_at.Given as goal

abbrev pub invariant-loop-j : goal.invariant-loop-j
invariant-loop-j l =
    (length l.s ≡ length l.initial.s) × ((i : ℕ) → i < l.base → get_or l.s i 0 ≡ get_or l.initial.s i 0)
    × ((u : ℕ) → u < l.j → get_or l.s (l.base + u) 0 ≡ get_or l.key u 0) × ((i : ℕ) → l.base + l.j ≤ i → get_or l.s i 0 ≡ get_or l.initial.s i 0)
