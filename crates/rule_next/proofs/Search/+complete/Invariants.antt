-- `rule_next::Search::complete` meets its contract: the smallest value that leads to the number, then the first of all below it; fewer features are left each time. Assumes nothing.
use Rattle.std.proofs.Common.{◌-◌}
use Rattle.rule_next.proofs.Search.+complete.Given as goal

abbrev pub decreases-complete : goal.decreases-complete
decreases-complete l = 16 - l.k
