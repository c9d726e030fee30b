-- `cost_sound::range::own_ok` meets its contract: what is kept is the lowest and the highest sum along the branches, or no sound table keeps it. Assumes nothing.
use Rattle.std.proofs.Common.{◌≡◌, ap, arith}
use mathlib.Core.Path.{◌∙◌}
use Rattle.cost_sound.proofs.Ranging.{own_lost, own_wrong, own_right, passes_equal}
use Rattle.promises.specs.Words.{size, feature}
use Rattle.cost_sound.proofs.range.own_ok.Goals as goal

pub returns-in_default : goal.returns-in_default
returns-in_default c =
    let p = c.requires in
    let a = c.args in
    let e : c.size_word-m.result ≡ size a.t.now (feature a.t.now a.i) = c.size_word-m.ensures ∙ ap (size a.t.now) c.record_word.ensures in
    own_lost p.0 a.i _ _ p.1 e c.body_of.ensures c.in_default.ensures

pub returns-then-pair-record_word : goal.returns-then-pair-record_word
returns-then-pair-record_word c =
    let p = c.requires in
    let a = c.args in
    let e : c.size_word-m.result ≡ size a.t.now (feature a.t.now a.i) = c.size_word-m.ensures ∙ ap (size a.t.now) c.record_word.ensures in
    passes_equal _ _ _ _
    (λ d. own_right p.0 a.i _ _ p.1 e c.body_of.ensures _ c.in-Some.ensures.1 (omega (arith, c.record_word-2.ensures)) (omega (arith, d)))
    (λ n. own_wrong p.0 a.i _ _ p.1 e c.body_of.ensures _ c.in-Some.ensures.1 (λ g h. n (omega (arith, h))))

pub returns-else-pair-record_word : goal.returns-else-pair-record_word
returns-else-pair-record_word c =
    let p = c.requires in
    let a = c.args in
    let e : c.size_word-m.result ≡ size a.t.now (feature a.t.now a.i) = c.size_word-m.ensures ∙ ap (size a.t.now) c.record_word.ensures in
    passes_equal _ _ _ _
    (λ d. absurd (c.if-pair-record_word.false d))
    (λ n. own_wrong p.0 a.i _ _ p.1 e c.body_of.ensures _ c.in-Some.ensures.1 (λ g h. n (omega (arith, g))))
