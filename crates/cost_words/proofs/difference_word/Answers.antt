-- `cost_words::difference_word` meets its contract: the difference within bounds has a word. Assumes nothing.
use Rattle.std.proofs.Common.{arith}
use Rattle.theory_costs.proofs.Words.{minus_room, int_minus}
use Rattle.cost_words.proofs.difference_word.Goals as goal

pub overflow_sub-result : goal.overflow_sub-result
overflow_sub-result c = let h = (minus_room c.args.a c.args.b c.requires).least in omega arith

pub overflow_cast-result : goal.overflow_cast-result
overflow_cast-result c = let h = (minus_room c.args.a c.args.b c.requires).most in omega arith

pub returns : goal.returns
returns c = let h = (minus_room c.args.a c.args.b c.requires).least in int_minus c.args.a c.args.b _ (omega arith)
