-- `rule_engine::operands::key_of` meets its contract: the feature + 1 and the first j operands are written. Assumes nothing.
use Rattle.std.proofs.Common.{length, get_or, ℕ, ◌+◌, ◌<◌, ◌≡◌}
use Rattle.rule_engine.proofs.operands.key_of.Given as goal

abbrev pub invariant-loop-j : goal.invariant-loop-j
invariant-loop-j l = (length l.key ≡ length l.ops + 1) × (get_or l.key 0 0 ≡ l.k + 1) × ((u : ℕ) → u < l.j → get_or l.key (1 + u) 0 ≡ get_or l.ops u 0)
