-- `cost_calls::call_tally::tally` meets its contract: the nodes in use are the distinct rests. Assumes nothing.
use Rattle.cost_calls.proofs.Sounding.{sound_tally}
use Rattle.table_calls.proofs.Drawn.{tallies}
use Rattle.cost_calls.proofs.Edge.{drawn}
use Rattle.promises.specs.CostDeeds.{cost_looked}
use mathlib.Core.Path.{◌∙◌}
use Rattle.cost_calls.proofs.call_tally.tally.Goals as goal

pub returns : goal.returns
returns c = let s = c.door.ensures.sound c.in_ok-door.was in tallies cost_looked drawn s (c.count_word.ensures ∙ sound_tally s)
