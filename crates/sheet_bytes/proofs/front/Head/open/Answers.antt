-- `sheet_bytes::front::Head::open` meets its contract: each test is one field of the record, the last by the test of feature lists. Assumes nothing.
use Rattle.std.proofs.Common.{sym, arith}
use mathlib.Core.Path.{◌∙◌}
use Rattle.settings.proofs.Answers.{sure, sure_not}
use Rattle.sheet_bytes.proofs.Opening.{opened, open_part}
use Rattle.sheet_bytes.proofs.front.Head.open.Goals.{then-bytes-n-via-then-bytes-n, then-bytes-n-via-else-bytes-n+then-not-features_ok}
use Rattle.sheet_bytes.proofs.front.Head.open.Goals as goal

pub returns-then-bytes-n : goal.returns-then-bytes-n
returns-then-bytes-n c =
    elim c.then-bytes-n.branch [
      | then-bytes-n-via-then-bytes-n w ↦ (λ o. omega (arith, o.long, c.pair_at-n.ensures.0))
      | then-bytes-n-via-else-bytes-n+then-not-features_ok w ↦ (λ o. sure_not w.if-not-features_ok.true w.features_ok.ensures (open_part _ _ c.pair_at-n.ensures.0 o))
    ]

pub invariant_of-result : goal.invariant_of-result
invariant_of-result c = record { opens = opened _ c.pair_at-n.result c.pair_at-n.ensures.0 (sym c.pair_at.ensures.0 ∙ c.if-pair_at-ne-FIRST.false) (omega arith) (sure c.if-not-features_ok.false c.features_ok.ensures) }
