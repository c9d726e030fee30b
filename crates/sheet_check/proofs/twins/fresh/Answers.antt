-- `sheet_check::twins::fresh` meets its contract: no node from the chain's word on is equal, and the chain falls. Assumes nothing.
use Rattle.std.proofs.Common.{refl, arith}
use Rattle.settings.proofs.Answers.{sure_not}
use Rattle.sheet_check.proofs.Hashing.{search_start, search_next}
use Rattle.sheet_check.proofs.twins.fresh.Goals as goal

pub loop-c-init : goal.loop-c-init
loop-c-init c = let p = c.requires in search_start p.1 c.args.h _ p.2 p.3 refl

pub loop-c-preserved : goal.loop-c-preserved
loop-c-preserved c = let l = c.loop-c in search_next c.requires.1 l.c _ (omega arith) l.invariant (sure_not c.if-same.false c.same.ensures) refl
