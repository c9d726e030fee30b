-- `cost_engine::join_costs` meets its contract: at the beginning nothing is remembered, and with no difference the joint cost is that of the two. Assumes nothing.
use Rattle.std.proofs.Common.{arith, ◌-◌}
use Rattle.table_notes.proofs.Alike.{grown_roomy}
use Rattle.table_notes.proofs.Windows.{lent_cleared}
use Rattle.cost_words.proofs.Packing.{int_zero}
use Rattle.table_memory.proofs.Remembering.{noted_none}
use Rattle.cost_nodes.specs.Nodes.{Result}
use Rattle.cost_engine.proofs.Walking.{start, joint_start, joinable_plain, joint_cleared}
use mathlib.Core.Path.{subst}
use Rattle.promises.specs.CostWords.{cost_branch as branch}
use Rattle.cost_engine.proofs.join_costs.Goals as goal

pub branch_result-requires : goal.branch_result-requires
branch_result-requires c =
    let n = c.begin-lent.ensures in (
      start _ _ _ _ _ _ (joinable_plain _ _ _ _ _ c.requires n.same) _ int_zero,
      noted_none _ _ _ _ _ n (lent_cleared c.args.s.now c.clear.new.s (c.begin-lent.result - 0) (omega (arith, n.fits)) c.clear.auto.s c.clear.ensures),
    )

pub clear_far-requires : goal.clear_far-requires
clear_far-requires c = grown_roomy _ _ c.branch_result.ensures.0.grown.kept c.begin-lent.ensures.windowed.roomy

pub returns-in_default : goal.returns-in_default
returns-in_default c =
    let w = c.branch_result in let n = c.begin-lent.ensures in
    subst (Result _ _ 0 _) c.in_default.is
    (joint_cleared c.args.t.now _ _ _ c.args.o (branch c.args.a.to c.args.a.adds) (branch c.args.b.to c.args.b.adds) w.result
    c.requires.first.rest n.same c.clear_far.ensures
    (joint_start _ _ _ _ _ _ (joinable_plain c.args.t.now _ c.args.o _ _ c.requires n.same) _ int_zero _ w.result w.ensures.0))

pub returns : goal.returns
returns c =
    let w = c.branch_result in let n = c.begin-lent.ensures in
    subst (Result _ _ 0 _) c.in-Some.is
    (joint_cleared c.args.t.now _ _ _ c.args.o (branch c.args.a.to c.args.a.adds) (branch c.args.b.to c.args.b.adds) w.result
    c.requires.first.rest n.same c.clear_window.ensures
    (joint_start _ _ _ _ _ _ (joinable_plain c.args.t.now _ c.args.o _ _ c.requires n.same) _ int_zero _ w.result w.ensures.0))
