-- `rule_lending::top_at` meets its contract: the features below the top of a branch are not tested. Assumes nothing.
use Rattle.rule_lending.proofs.Inside.{lends_asks, lent_tops}
use Rattle.rule_lending.proofs.top_at.Goals as goal

pub top_of-requires : goal.top_of-requires
top_of-requires c = lends_asks c.requires

pub returns : goal.returns
returns c = λ k p. lent_tops c.top_of.ensures p
