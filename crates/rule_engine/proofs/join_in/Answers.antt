-- `rule_engine::join_in` meets its contract: at the beginning nothing is remembered, and the far records are 0 again. Assumes nothing.
use Rattle.std.proofs.Common.{arith}
use Rattle.table_notes.proofs.Alike.{grown_roomy}
use Rattle.table_notes.proofs.Windows.{lent_cleared}
use Rattle.table_memory.proofs.Remembering.{noted_none}
use Rattle.rule_engine.specs.Memory.{Still}
use Rattle.rule_engine.proofs.Noting.{operands_plain, joint_cleared}
use mathlib.Core.Path.{subst}
use Rattle.rule_nodes.specs.Nodes.{Result}
use Rattle.rule_engine.proofs.join_in.Goals as goal

pub rest_result-requires : goal.rest_result-requires
rest_result-requires c =
    let n = c.begin-lent.ensures in (
      operands_plain c.args.t.now _ _ _ 0 c.args.ops.now c.requires.0 c.requires.1 n.same,
      noted_none _ _ _ _ _ n (lent_cleared c.args.s.now c.clear.new.s c.begin-lent.result (omega (arith, n.fits)) c.clear.auto.s c.clear.ensures),
    )

pub clear_far-requires : goal.clear_far-requires
clear_far-requires c = grown_roomy _ _ c.rest_result.ensures.0.grown.kept c.begin-lent.ensures.windowed.roomy

pub returns-in_default : goal.returns-in_default
returns-in_default c =
    joint_cleared c.args.t.now _ _ _ _ _ _ 0 c.args.ops.now _ c.requires.1 c.begin-lent.ensures.same c.clear_far.ensures
    (subst (Result _ _ 0 _) c.in_default.is c.rest_result.ensures.0)

pub clear_window-requires : goal.clear_window-requires
clear_window-requires c = (subst (Still _ _ _ _ _) c.in-Some.is c.rest_result.ensures.1).room

pub returns : goal.returns
returns c =
    joint_cleared c.args.t.now _ _ _ _ _ _ 0 c.args.ops.now _ c.requires.1 c.begin-lent.ensures.same c.clear_window.ensures
    (subst (Result _ _ 0 _) c.in-Some.is c.rest_result.ensures.0)
