-- `rule_operations::call_restrict::restrict` meets its contract: the feature and the value are tested past the door, and what was restricted is put. Assumes nothing.
use Rattle.std.proofs.Common.{refl, arith}
use mathlib.Core.Logic.{inl, inr, ⊎_elim}
use Rattle.settings.proofs.Endings.{stop, pass}
use Rattle.table_words.proofs.Words.{length_sizes, at_sizes}
use Rattle.table_calls.proofs.Meeting.{let_in, refuses}
use Rattle.rule_operations.proofs.Operands.{restricted_on}
use Rattle.rule_operations.proofs.Putting.{built_meets}
use Rattle.rule_operations.proofs.call_restrict.restrict.Goals as goal
use Rattle.rule_operations.proofs.call_restrict.restrict.Goals.{then-features_word-feature-via-then-features_word-feature, then-features_word-feature-via-else-features_word-feature+then-size_word-value}

pub returns-then-features_word-feature : goal.returns-then-features_word-feature
returns-then-features_word-feature c =
    let a = c.args in
    refuses refl refl (let_in c.door.ensures c.in_ok-door.was (stop (
    elim c.then-features_word-feature.branch [
      | then-features_word-feature-via-then-features_word-feature w ↦ inl (omega (arith, length_sizes a.t.now))
      | then-features_word-feature-via-else-features_word-feature+then-size_word-value w ↦
          inr (let n = at_sizes a.t.now a.feature (omega arith) in omega (arith, n, w.size_word.ensures))
    ])))

pub returns : goal.returns
returns c =
    let a = c.args in
    let e = c.door.ensures in
    let t = c.in_ok-door.was in
    let n = at_sizes a.t.now a.feature (omega arith) in
    built_meets refl refl c.put_restricted.ensures (restricted_on a.t.now a.from a.feature a.value ((e.there t).each 1 (omega arith)))
    (λ z. let_in e t (pass (⊎_elim (λ h. omega (arith, h, length_sizes a.t.now)) (λ h. omega (arith, h, n))) z))
    (λ k. tt) (λ y k. k)
