-- `cost_words::sum_word` meets its contract: the sum within bounds has a word. Assumes nothing.
use Rattle.std.proofs.Common.{arith}
use Rattle.theory_costs.proofs.Words.{sum_room, int_sum}
use Rattle.cost_words.proofs.sum_word.Goals as goal

pub overflow_sub-result : goal.overflow_sub-result
overflow_sub-result c = let h = (sum_room c.args.a c.args.b c.requires).least in omega arith

pub overflow_cast-result : goal.overflow_cast-result
overflow_cast-result c = let h = (sum_room c.args.a c.args.b c.requires).most in omega arith

pub returns : goal.returns
returns c = let h = (sum_room c.args.a c.args.b c.requires).least in int_sum c.args.a c.args.b _ (omega arith)
