-- `rule_engine::operands::lowest` meets its contract: m is the lowest feature that the operands passed test. Assumes nothing.
use Rattle.std.proofs.Common.{arith, ◌≡◌, sym}
use Rattle.rule_notes.proofs.Reading.{plain_head}
use Rattle.table_notes.specs.Plain.{plain}
use Rattle.table_notes.proofs.Plain.{length_plain}
use borrow.Author.Count.{below_more}
use mathlib.Core.Path.{◌∙◌}
use Rattle.promises.specs.Words.{features}
use Rattle.rule_engine.proofs.operands.lowest.Goals as goal

pub features_word-m-requires : goal.features_word-m-requires
features_word-m-requires c = omega (arith, c.requires.0.room, length_plain c.args.t.now)

pub loop-op-init : goal.loop-op-init
loop-op-init c =
    let w = c.args.t.now in
    let e : c.features_word-m.result ≡ features (plain w) = c.features_word-m.ensures ∙ sym (plain_head w 2 (omega arith)) in
    (omega arith, (λ i h. absurd (omega arith)), λ z h k. omega arith)

pub loop-op-preserved : goal.loop-op-preserved
loop-op-preserved c =
    let l = c.loop-op in
    let e = c.min-m.ensures in (
      omega (arith, l.invariant.0),
      below_more _ _ (λ i h. omega (arith, l.invariant.1 i h)) (omega (arith, c.top_in.ensures)),
      (λ z h k. omega (arith, l.invariant.2 z h (λ i lt. k i (omega arith)), k l.op-index (omega arith), c.top_in.ensures)),
    )
