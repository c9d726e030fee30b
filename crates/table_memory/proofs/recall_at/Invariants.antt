-- `table_memory::recall_at` meets its contract: so many words of the entry are the same as those of the key. Assumes nothing.
use Rattle.std.proofs.Common.{get_or, ℕ, ◌+◌, ◌<◌, ◌≡◌}
use Rattle.table_memory.proofs.recall_at.Given as goal

abbrev pub invariant-loop-j : goal.invariant-loop-j
invariant-loop-j l = (u : ℕ) → u < l.j → get_or l.s (l.base + u) 0 ≡ get_or l.key u 0
