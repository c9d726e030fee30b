-- `cost_notes::arm_in` meets its contract: the nodes are those without notes. Assumes nothing.
use Rattle.std.proofs.Common.{arith, ◌+◌, List, ap}
use Rattle.cost_notes.proofs.Reading.{noted_place, noted_nodes, plain_head}
use mathlib.Core.Path.{◌∙◌}
use Rattle.theory.specs.Costs.{costs}
use Rattle.theory.specs.Diagrams.{Node}
use Rattle.theory_costs.specs.Relative.{branch_at}
use Rattle.promises.specs.CostWords.{target}
use Rattle.cost_notes.proofs.arm_in.Goals as goal

pub arm_at-requires : goal.arm_at-requires
arm_at-requires c =
    let w = c.args.t.now in
    (noted_place w _ _ c.requires.0, omega (arith, c.requires.1, plain_head w 2 (omega arith)), omega (arith, c.requires.2, plain_head w (3 + c.args.k) (omega (arith, c.requires.0.holds.laid.laid.few))))

pub returns : goal.returns
returns c =
    c.arm_at.ensures ∙ ap (λ (N : List (Node costs)). branch_at N c.args.k (target c.args.x) c.args.v) (noted_nodes c.args.t.now c.requires.0.holds.laid.laid)
