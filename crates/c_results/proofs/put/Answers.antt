-- `put` meets its contract: one word more is laid, or there is no room for it. Assumes nothing.
use Rattle.std.proofs.Common.{arith}
use Rattle.std.proofs.lemmas.Grind.{common_steps}
use Rattle.c_results.proofs.Placing.{placed_more, placed_full}
use Rattle.c_results.proofs.put.Goals.{then-i-out, else-i-out}
use Rattle.c_results.proofs.put.Goals as goal

pub loop-i-preserved : goal.loop-i-preserved
loop-i-preserved c = elim c.if-i-out.branch [ then-i-out w ↦ grind (arith, common_steps, placed_more) | else-i-out w ↦ grind (arith, common_steps, placed_full) ]
