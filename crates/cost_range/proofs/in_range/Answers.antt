-- `cost_range::in_range` meets its contract: each operator in turn. Assumes nothing.
use Rattle.std.proofs.Common.{refl, true}
use Rattle.theory.specs.Diagrams.{meaning}
use Rattle.theory_costs.proofs.Range.{smaller_within, larger_within}
use Rattle.cost_range.proofs.Ranging.{told}
use Rattle.promises.specs.CostWords.{cost_branch as branch, cost_node_list as nodes}
use Rattle.cost_range.proofs.in_range.Goals as goal

pub returns-in-Smaller : goal.returns-in-Smaller
returns-in-Smaller c = (
  refl,
  told _ _ (meaning (nodes c.args.t.now) (branch c.args.b.to c.args.b.adds)) c.args.o _ c.in-Smaller.is true
      (smaller_within c.requires.first.within c.requires.second.within),
)

pub returns-in-Larger : goal.returns-in-Larger
returns-in-Larger c = (
  refl,
  told _ _ (meaning (nodes c.args.t.now) (branch c.args.b.to c.args.b.adds)) c.args.o _ c.in-Larger.is true
      (larger_within c.requires.first.within c.requires.second.within),
)
