-- `cost_nodes::arm_at` meets its contract: a node of feature k goes to its branch, any other target waits. Assumes nothing.
use Rattle.std.proofs.Common.{sym, arith, ◌-◌}
use mathlib.Core.Path.{ap₂, ◌∙◌}
use Rattle.cost_nodes.proofs.Stepping.{good_small, is_node, arm_here, arm_skip}
use Rattle.promises.specs.CostWords.{cost_branch as branch}
use Rattle.cost_nodes.proofs.arm_at.Goals as goal

pub top_of-requires : goal.top_of-requires
top_of-requires c = (c.requires.0.holds.laid.laid, good_small _ _ _ c.requires.0.good)

pub overflow_sub-i : goal.overflow_sub-i
overflow_sub-i c = omega (arith, is_node c.args.t.now c.args.x (omega arith))

pub goes_to-requires : goal.goes_to-requires
goes_to-requires c =
    let n = is_node c.args.t.now c.args.x (omega arith) in
    let s = good_small _ _ _ c.requires.0.good in
    let d = c.requires.0.holds.laid.laid in
    let m = d.large c.args.k c.requires.1 in
    (omega (arith, d.room, d.within), omega (arith, d.most, d.within), omega arith)

pub adds_at-requires : goal.adds_at-requires
adds_at-requires c =
    let n = is_node c.args.t.now c.args.x (omega arith) in
    let s = good_small _ _ _ c.requires.0.good in
    let d = c.requires.0.holds.laid.laid in
    let m = d.large c.args.k c.requires.1 in
    (omega (arith, d.room, d.within), omega (arith, d.most, d.within), omega arith)

pub returns-then-top_of-k : goal.returns-then-top_of-k
returns-then-top_of-k c =
    ap₂ branch c.goes_to.ensures c.adds_at.ensures
    ∙ arm_here c.args.t.now c.args.k c.args.x (c.args.x - 1) c.args.v c.requires.0 c.requires.2
    (sym c.top_of.ensures ∙ c.if-top_of-k.true)
    (omega (arith, is_node c.args.t.now c.args.x (omega arith)))

pub returns-else-top_of-k : goal.returns-else-top_of-k
returns-else-top_of-k c = arm_skip c.args.t.now c.args.k c.args.x c.args.v c.requires.0 (λ d. c.if-top_of-k.false (c.top_of.ensures ∙ d))
