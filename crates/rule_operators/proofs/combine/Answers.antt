-- `rule_operators::combine` meets its contract: which operator it is. Assumes nothing.
use Rattle.std.proofs.Common.{arith, sym}
use Rattle.rule_operators.proofs.Operating.{list_pair, list_case, list_forget}
use mathlib.Core.Path.{◌∙◌}
use Rattle.std.proofs.lemmas.Bool.Decides.{nat_tests}
use Rattle.promises.specs.Operators.{pair_of}
use Rattle.rule_operators.proofs.combine.Goals as goal

pub returns-in-Smaller : goal.returns-in-Smaller
unfolding pair_of
returns-in-Smaller c = rw (c.in-Smaller.is, list_pair 1 c.args.vals.now (omega arith)) (grind (arith, nat_tests))

pub returns-in-Larger : goal.returns-in-Larger
unfolding pair_of
returns-in-Larger c = rw (c.in-Larger.is, list_pair 2 c.args.vals.now (omega arith)) (grind (arith, nat_tests))

pub returns-in-Equal : goal.returns-in-Equal
unfolding pair_of
returns-in-Equal c = rw (c.in-Equal.is, list_pair 3 c.args.vals.now (omega arith)) (grind (arith, nat_tests))

pub returns-in-Less : goal.returns-in-Less
unfolding pair_of
returns-in-Less c = rw (c.in-Less.is, list_pair 4 c.args.vals.now (omega arith)) (grind (arith, nat_tests))

pub returns-in-Differ : goal.returns-in-Differ
unfolding pair_of
returns-in-Differ c = rw (c.in-Differ.is, list_pair 5 c.args.vals.now (omega arith)) (grind (arith, nat_tests))

pub returns-in-Case : goal.returns-in-Case
returns-in-Case c = rw c.in-Case.is (c.chosen.ensures ∙ sym (list_case c.args.vals.now))

pub returns-in-Forget : goal.returns-in-Forget
returns-in-Forget c = rw c.in-Forget.is (c.forgotten.ensures ∙ sym (list_forget c.args.vals.now))
