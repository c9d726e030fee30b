-- `rule_next::Search::seek` meets its contract: the same value with what follows it, or else the smallest greater one with the first of all; fewer features are left each time. Assumes nothing.
use Rattle.std.proofs.Common.{◌-◌}
use Rattle.rule_next.proofs.Search.+seek.Given as goal

abbrev pub decreases-seek : goal.decreases-seek
decreases-seek l = 16 - l.k
