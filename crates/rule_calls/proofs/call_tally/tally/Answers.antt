-- `rule_calls::call_tally::tally` meets its contract: the nodes in use are the distinct rests. Assumes nothing.
use Rattle.rule_calls.proofs.Sounding.{sound_tally}
use Rattle.table_calls.proofs.Drawn.{tallies}
use Rattle.rule_calls.proofs.Edge.{drawn}
use Rattle.promises.specs.RuleDeeds.{looked}
use mathlib.Core.Path.{◌∙◌}
use Rattle.rule_calls.proofs.call_tally.tally.Goals as goal

pub returns : goal.returns
returns c = let s = c.door.ensures.sound c.in_ok-door.was in tallies looked drawn s (c.count_word.ensures ∙ sound_tally s)
