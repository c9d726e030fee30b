-- `rule_operations::call_case::lined` meets its contract: the first word is the selector's root word, and what is handed on for the branches passed follows it. Assumes nothing.
use Rattle.std.proofs.Common.{ℕ, ◌≡◌, ◌+◌, ◌<◌, length, get_or}
use Rattle.promises.specs.RuleWords.{rule_root}
use Rattle.rule_operations.specs.Joining.{Handed}
use Rattle.rule_operations.proofs.call_case.lined.Given as goal

abbrev pub invariant-loop-j : goal.invariant-loop-j
invariant-loop-j l = record {
  long : length l.ops ≡ 9;
  first : get_or l.ops 0 0 ≡ rule_root l.t l.selector;
  others : (k : ℕ) → k < l.j → Handed l.t l.selector k (get_or l.branches k 0) (get_or l.ops (1 + k) 0);
}
