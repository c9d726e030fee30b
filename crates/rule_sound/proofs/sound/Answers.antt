-- `rule_sound::sound` meets its contract: each test is one field of the record, in its order. Assumes nothing.
use Rattle.std.proofs.Common.{rules, sym}
use Rattle.settings.proofs.Answers.{retell}
use Rattle.table_checks.specs.Walk.{Rooted}
use Rattle.rule_sound.proofs.Walking.{order_is}
use mathlib.Core.Path.{◌∙◌}
use Rattle.promises.specs.Sound.{Header, Chained}
use Rattle.promises.specs.RuleSound.{RuleNodesOk as Nodes}
use Rattle.rule_sound.proofs.sound.Goals as goal

pub returns-then-roots_ok : goal.returns-then-roots_ok
returns-then-roots_ok c =
    let t = c.args.t.now in
    let h : Header 1 t = search rules in
    let n : Nodes t = search rules in
    let k : Chained t = search rules in
    let r : Rooted 65536 32 t = search rules in
    retell c.order_ok.result
    (λ q. record { header = h; nodes_ok = n; chained = k; roots_ok = record { rooted = r.rooted }; in_order = order_is _ ∙ q })
    (λ z. sym (order_is _) ∙ z.in_order)
    c.order_ok.ensures
