-- `cost_words::target_at` meets its contract: 0 goes to the end, another word to the node of the index before it. Assumes nothing.
use Rattle.std.proofs.Common.{sym, arith, ◌-◌}
use Rattle.cost_words.proofs.Packing.{target_end, target_node}
use Rattle.cost_words.proofs.target_at.Goals as goal

pub returns-then-w-eq0 : goal.returns-then-w-eq0
returns-then-w-eq0 c = sym (target_end c.args.w (omega arith))

pub returns-else-w-eq0 : goal.returns-else-w-eq0
returns-else-w-eq0 c = let w = c.args.w in sym (target_node w (w - 1) (omega arith))
