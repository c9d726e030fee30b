-- `cost_sound::shaped_ok` meets its contract: the walk over the shape is the walk over the nodes. Assumes nothing.
use Rattle.std.proofs.Common.{rules, sym}
use Rattle.settings.proofs.Answers.{retell}
use Rattle.cost_sound.proofs.Walking.{order_is}
use Rattle.table_checks.specs.Walk.{Rooted}
use mathlib.Core.Path.{◌∙◌}
use Rattle.promises.specs.Sound.{Header, Chained}
use Rattle.promises.specs.CostSound.{CostNodesOk as Nodes}
use Rattle.cost_sound.proofs.shaped_ok.Goals as goal

pub returns-then-roots_ok : goal.returns-then-roots_ok
returns-then-roots_ok c =
    let h : Header 2 c.args.t.now = search rules in
    let n : Nodes c.args.t.now = search rules in
    let l : Chained c.args.t.now = search rules in
    let r : Rooted 1 16 c.args.t.now = search rules in
    retell c.order_ok.result
    (λ q. record { header = h; nodes_ok = n; chained = l; roots_ok = record { rooted = r.rooted }; in_order = order_is _ ∙ q })
    (λ z. sym (order_is _) ∙ z.in_order)
    c.order_ok.ensures
