-- `sheet_check::checking::canonical` meets its contract: no idle node, no twins, then the order. Assumes nothing.
use Rattle.settings.proofs.Answers.{sure, sure_not, retell}
use Rattle.sheet_check.proofs.Wording.{words_canonical, canonical_reduced, canonical_turn}
use Rattle.sheet_check.proofs.checking.canonical.Goals as goal

pub returns-then-reduced : goal.returns-then-reduced
returns-then-reduced c = retell c.in_order.result (words_canonical (sure c.if-reduced.true c.reduced.ensures)) canonical_turn c.in_order.ensures

pub returns-else-reduced : goal.returns-else-reduced
returns-else-reduced c = retell c.reduced.result (λ r. absurd (sure_not c.if-reduced.false c.reduced.ensures r)) canonical_reduced c.reduced.ensures
