-- `cost_engine::operators::end_word` meets its contract, operator by operator. Assumes nothing.
use Rattle.std.proofs.Common.{ℤ, pos, ◌-ℤ◌, sym, ap}
use Rattle.cost_engine.proofs.Operating.{scale_end, smaller_zero, larger_zero}
use Rattle.cost_engine.specs.declared.operators.Operator.{Operator}
use Rattle.cost_engine.specs.Joint.{op_of}
use Rattle.cost_words.proofs.Packing.{int_zero}
use mathlib.Core.Path.{subst, ◌∙◌}
use Rattle.promises.specs.Range.{add_most}
use Rattle.promises.specs.Integers.{Fit, int}
use Rattle.cost_engine.proofs.operators.end_word.Goals as goal

pub difference_word-requires : goal.difference_word-requires
difference_word-requires c =
    subst (λ (z : ℤ). Fit add_most (z -ℤ int c.args.d)) (sym int_zero) (subst (λ (o : Operator). Fit add_most (op_of o (pos 0) (int c.args.d))) c.in-Subtract.is c.requires)

pub returns-in-Subtract : goal.returns-in-Subtract
returns-in-Subtract c =
    c.difference_word.ensures ∙ ap (λ (z : ℤ). z -ℤ int c.args.d) int_zero ∙ sym (ap (λ (o : Operator). op_of o (pos 0) (int c.args.d)) c.in-Subtract.is)

pub returns-in-Smaller : goal.returns-in-Smaller
returns-in-Smaller c = ap int c.min.ensures ∙ smaller_zero c.args.d ∙ sym (ap (λ (o : Operator). op_of o (pos 0) (int c.args.d)) c.in-Smaller.is)

pub returns-in-Larger : goal.returns-in-Larger
returns-in-Larger c = ap int c.max.ensures ∙ larger_zero c.args.d ∙ sym (ap (λ (o : Operator). op_of o (pos 0) (int c.args.d)) c.in-Larger.is)

pub returns-in-Scale : goal.returns-in-Scale
returns-in-Scale c = int_zero ∙ sym (scale_end _ _ c.in-Scale.is (int c.args.d))
