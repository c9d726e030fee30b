-- `sheet_reader::take_in` meets its contract: nothing is noted at first, and the root says the sheet's rule. Assumes nothing.
use Rattle.std.proofs.Common.{ℕ}
use Rattle.sheet_reader.proofs.Walking.{asks_root}
use lib.ListN.{get_or-replicate, length-replicate}
use Rattle.sheet_reader.proofs.take_in.Goals as goal

pub take_branch-requires : goal.take_branch-requires
take_branch-requires c =
    let s = c.args.sheet in
    asks_root _ _ _ _ _ c.requires.0 s.good s.laid.placed c.requires.1 c.root.ensures.0 (length-replicate {A = ℕ} 4096 0) (λ u h. get_or-replicate 4096 u 0 0 h)
