-- `rule_engine::operands::operands_at` meets its contract: the operands passed have gone to their branches. Assumes nothing.
use Rattle.std.proofs.Common.{length, ℕ, ◌<◌, ◌≡◌}
use Rattle.rule_operators.specs.Operators.{forgotten_by}
use Rattle.rule_engine.specs.Joint.{turn}
use Rattle.table_notes.specs.Plain.{plain}
use Rattle.table_words.specs.Words.{listed}
use Rattle.theory.specs.Diagrams.{next as next_of}
use Rattle.promises.specs.RuleWords.{decode, rule_node_list as nodes}
use Rattle.rule_engine.proofs.operands.operands_at.Given as goal

abbrev pub invariant-loop-j : goal.invariant-loop-j
invariant-loop-j l =
    (length l.next ≡ length l.ops) × ((i : ℕ) → i < l.j → decode (listed l.next i) ≡ next_of (nodes (plain l.t)) l.k (decode (listed l.ops i)) (turn (forgotten_by l.operator) l.k i l.v))
