-- `rule_restrict::held` meets its contract: the walk goes by the words without notes, which are the words before it and once the notes are taken away. Assumes nothing.
use Rattle.rule_restrict.proofs.Walking.{holding_walks, walked_asks, walked_result}
use Rattle.rule_restrict.proofs.held.Goals as goal

pub restrict_walk-r-requires : goal.restrict_walk-r-requires
restrict_walk-r-requires c = holding_walks _ _ _ _ c.requires

pub clear_notes-requires : goal.clear_notes-requires
clear_notes-requires c = walked_asks _ _ _ _ _ _ (holding_walks _ _ _ _ c.requires) c.restrict_walk-r.ensures

pub returns : goal.returns
returns c = rw c.clear_notes.ensures (walked_result _ _ _ _ _ _ c.requires c.restrict_walk-r.ensures)
