-- `cost_engine::operators::onward_word` meets its contract: the difference within bounds has a word. Assumes nothing.
use Rattle.std.proofs.Common.{arith}
use Rattle.theory_costs.proofs.Words.{more_room, int_more}
use Rattle.cost_engine.proofs.operators.onward_word.Goals as goal

pub overflow_sub-result : goal.overflow_sub-result
overflow_sub-result c = let h = (more_room c.args.d c.args.b c.args.a c.requires).least in omega arith

pub overflow_cast-result : goal.overflow_cast-result
overflow_cast-result c = let h = (more_room c.args.d c.args.b c.args.a c.requires).most in omega arith

pub returns : goal.returns
returns c = let h = (more_room c.args.d c.args.b c.args.a c.requires).least in int_more c.args.d c.args.b c.args.a _ (omega arith)
