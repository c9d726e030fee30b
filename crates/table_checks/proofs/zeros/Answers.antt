-- `table_checks::zeros` meets its contract: the bits of the words passed, put together, are 0 exactly if they are. Assumes nothing.
use Rattle.std.proofs.Common.{refl, arith}
use Rattle.table_checks.proofs.Gathering.{gathered_more}
use Rattle.table_checks.proofs.zeros.Goals as goal

pub loop-j-preserved : goal.loop-j-preserved
loop-j-preserved c = (gathered_more _ _ _ _ _ refl c.loop-j.invariant.0, λ h. absurd (omega arith))
