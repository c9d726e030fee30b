-- `cost_operations::joining::put_joint_in` meets its contract: RANGE before anything is built, and what was built is settled. Assumes nothing.
use Rattle.std.proofs.Common.{List, ap, ℕ}
use mathlib.Core.Path.{◌∙◌}
use Rattle.cost_operations.proofs.Operands.{joins_put, result_again}
use Rattle.cost_settling.proofs.Settling.{settle_asks, settles}
use Rattle.promises.specs.Words.{count}
use Rattle.cost_operations.proofs.joining.put_joint_in.Goals as goal

pub settle-requires : goal.settle-requires
settle-requires c =
    let z = c.in_range in let j = c.join_costs-r in
    settle_asks _ j.result c.requires.0 (result_again z.ensures.0 c.args.o _ _ _ j.result j.ensures) c.requires.1
    (c.count_word-used.ensures ∙ ap (λ (w : List ℕ). count w) z.ensures.0) c.if-not-in_range.ensures.1

pub returns : goal.returns
returns c =
    let z = c.in_range in let j = c.join_costs-r in
    joins_put c.requires.0 c.if-not-in_range.ensures.1
    (settles _ j.result c.requires.0 (result_again z.ensures.0 c.args.o _ _ _ j.result j.ensures) c.requires.1
    (c.count_word-used.ensures ∙ ap (λ (w : List ℕ). count w) z.ensures.0) c.settle.ensures)
