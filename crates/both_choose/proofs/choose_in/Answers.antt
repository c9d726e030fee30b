-- `both_choose::choose_in` meets its contract: at the beginning nothing is remembered, and with no difference the choice is that of the two costs. Assumes nothing.
use Rattle.std.proofs.Common.{arith, ◌-◌}
use Rattle.both_choose.proofs.Walking.{start, choice_start, choosable_plain, choice_cleared}
use Rattle.table_memory.proofs.Remembering.{noted_none}
use Rattle.cost_words.proofs.Packing.{int_zero}
use Rattle.cost_nodes.specs.Nodes.{Result}
use Rattle.table_notes.proofs.Alike.{grown_roomy}
use Rattle.table_notes.proofs.Windows.{lent_cleared}
use mathlib.Core.Path.{subst}
use Rattle.promises.specs.CostWords.{cost_branch as branch}
use Rattle.both_choose.proofs.choose_in.Goals as goal

pub branch_result-requires : goal.branch_result-requires
branch_result-requires c =
    let n = c.begin-lent.ensures in (
      start _ _ _ _ _ _ _ (choosable_plain _ _ _ _ _ _ c.requires n.same) _ int_zero,
      noted_none _ _ _ _ _ n (lent_cleared c.args.s.now c.clear.new.s (c.begin-lent.result - 0) (omega (arith, n.fits)) c.clear.auto.s c.clear.ensures),
    )

pub clear_far-requires : goal.clear_far-requires
clear_far-requires c = grown_roomy _ _ c.branch_result.ensures.0.grown.kept c.begin-lent.ensures.windowed.roomy

pub returns-in_default : goal.returns-in_default
returns-in_default c =
    let w = c.branch_result in let n = c.begin-lent.ensures in
    subst (Result _ _ 0 _) c.in_default.is
    (choice_cleared c.args.r.now c.args.t.now _ _ _ c.args.b (branch c.args.x.to c.args.x.adds) (branch c.args.y.to c.args.y.adds) w.result
    c.requires.first.rest n.same c.clear_far.ensures
    (choice_start _ _ _ _ _ _ _ (choosable_plain c.args.r.now c.args.t.now _ c.args.b _ _ c.requires n.same) _ int_zero _ w.result w.ensures.0))

pub returns : goal.returns
returns c =
    let w = c.branch_result in let n = c.begin-lent.ensures in
    subst (Result _ _ 0 _) c.in-Some.is
    (choice_cleared c.args.r.now c.args.t.now _ _ _ c.args.b (branch c.args.x.to c.args.x.adds) (branch c.args.y.to c.args.y.adds) w.result
    c.requires.first.rest n.same c.clear_window.ensures
    (choice_start _ _ _ _ _ _ _ (choosable_plain c.args.r.now c.args.t.now _ c.args.b _ _ c.requires n.same) _ int_zero _ w.result w.ensures.0))
