-- `sheet_check::twins::reduced` meets its contract: the nodes passed are chained, none is idle, and each was new. Assumes nothing.
use Rattle.std.proofs.Common.{ℕ, refl, arith, below_more, ◌∙◌}
use lib.ListN.{length-set, length-replicate}
use Rattle.settings.proofs.Answers.{sure, sure_not}
use Rattle.sheet_check.proofs.Hashing.{chained_none, chained_more}
use Rattle.sheet_check.proofs.twins.reduced.Goals as goal

pub loop-i-init : goal.loop-i-init
loop-i-init c = record { heads = length-replicate {A = ℕ} 4096 0; links = length-replicate {A = ℕ} 4096 0; chained = chained_none _ _; differ = λ j h. absurd (omega arith); new = λ j h. absurd (omega arith) }

pub loop-i-preserved : goal.loop-i-preserved
loop-i-preserved c =
    let l = c.loop-i in record {
      heads = length-set l.heads _ _ ∙ l.invariant.heads;
      links = length-set l.links _ _ ∙ l.invariant.links;
      chained = chained_more l.invariant.chained c.hash_of-h.result _ _ c.hash_of-h.ensures.0 refl refl c.hash_of-h.ensures.1 l.invariant.heads (omega (arith, l.invariant.links, c.count-i-end.ensures.1));
      differ = below_more _ _ l.invariant.differ (sure_not c.if-alike.false c.alike.ensures);
      new = below_more _ _ l.invariant.new (sure c.if-not-fresh.false c.fresh.ensures);
    }
