-- `rule_engine::operands::lowest` meets its contract: m is the lowest feature that the operands passed test. Assumes nothing.
use Rattle.std.proofs.Common.{ℕ, ◌≤◌, ◌<◌}
use Rattle.table_notes.specs.Plain.{plain}
use Rattle.rule_nodes.specs.Nodes.{top}
use Rattle.table_words.specs.Words.{listed}
use Rattle.promises.specs.Words.{features}
use Rattle.rule_engine.proofs.operands.lowest.Given as goal

abbrev pub invariant-loop-op : goal.invariant-loop-op
invariant-loop-op l =
    (l.m ≤ features (plain l.t)) × ((i : ℕ) → i < l.op-index → l.m ≤ top (plain l.t) (listed l.ops i)) ×
    ((z : ℕ) → z ≤ features (plain l.t) → ((i : ℕ) → i < l.op-index → z ≤ top (plain l.t) (listed l.ops i)) → z ≤ l.m)
