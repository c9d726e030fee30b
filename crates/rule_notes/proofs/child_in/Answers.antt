-- `rule_notes::child_in` meets its contract: the nodes are those without notes. Assumes nothing.
use Rattle.std.proofs.Common.{arith, ◌+◌, List, ap}
use Rattle.rule_notes.proofs.Reading.{noted_place, noted_nodes, plain_head}
use mathlib.Core.Path.{◌∙◌}
use Rattle.theory.specs.Rules.{Node}
use Rattle.theory.specs.Diagrams.{next}
use Rattle.promises.specs.RuleWords.{decode}
use Rattle.rule_notes.proofs.child_in.Goals as goal

pub child_of-requires : goal.child_of-requires
child_of-requires c =
    let w = c.args.t.now in
    (noted_place w _ _ c.requires.0, omega (arith, c.requires.1, plain_head w 2 (omega arith)), omega (arith, c.requires.2, plain_head w (3 + c.args.k) (omega (arith, c.requires.0.holds.laid.laid.few))))

pub returns : goal.returns
returns c = c.child_of.ensures ∙ ap (λ (N : List Node). next N c.args.k (decode c.args.b) c.args.v) (noted_nodes c.args.t.now c.requires.0.holds)
