-- `rule_operations::call_literal::literal` meets its contract: past the door nothing may be shifted out of a set of the feature's values. Assumes nothing.
use Rattle.std.proofs.Common.{refl, sym, ℕ, ◌^◌, ◌≤◌, ◌<◌, arith}
use Rattle.std.proofs.lemmas.Result.{err_from_is_err_and}
use mathlib.Core.Path.{subst, ◌∙◌}
use mathlib.Core.Logic.{inl, inr, ⊎_elim}
use Rattle.settings.proofs.Endings.{stop, pass, not_taken, not_refused}
use Rattle.table_words.proofs.Words.{length_sizes, at_sizes}
use Rattle.table_calls.proofs.Meeting.{let_in, refuses}
use Rattle.rule_operations.proofs.Bits.{shift_none, shift_some, ones_size}
use Rattle.rule_operations.proofs.Putting.{built_meets}
use Rattle.rule_operations.proofs.call_literal.literal.Goals as goal
use Rattle.rule_operations.proofs.call_literal.literal.Goals.{then-features_word-feature-via-then-features_word-feature, then-features_word-feature-via-else-features_word-feature+then-bits-size_word-ne0}

pub returns-then-features_word-feature : goal.returns-then-features_word-feature
returns-then-features_word-feature c =
    let a = c.args in
    refuses refl refl (let_in c.door.ensures c.in_ok-door.was (stop (
    elim c.then-features_word-feature.branch [
      | then-features_word-feature-via-then-features_word-feature w ↦ inl (omega (arith, length_sizes a.t.now))
      | then-features_word-feature-via-else-features_word-feature+then-bits-size_word-ne0 w ↦
          inr (subst (λ (k : ℕ). 2 ^ k ≤ a.bits) (w.size_word.ensures ∙ sym (at_sizes a.t.now a.feature (omega arith))) (shift_some a.bits w.size_word.result w.if-bits-size_word-ne0.true))
    ])))

pub returns-in_err-put_literal : goal.returns-in_err-put_literal
returns-in_err-put_literal c =
    let a = c.args in
    let p = err_from_is_err_and c.from_residual-in_err-put_literal.result c.from_residual-in_err-put_literal.ensures.1 in
    let n = c.size_word.ensures ∙ sym (at_sizes a.t.now a.feature (omega arith)) in
    let h = subst (λ (k : ℕ). a.bits < 2 ^ k) n (shift_none a.bits c.size_word.result c.if-bits-size_word-ne0.false) in
    rw (p.1, p.2) (built_meets refl refl c.in_err-put_literal.ensures (λ s v. refl)
    (λ z. let_in c.door.ensures c.in_ok-door.was (pass (⊎_elim (λ q. omega (arith, q, length_sizes a.t.now)) (λ q. omega (arith, q, h))) z))
    not_taken (λ y k. cc))

pub returns : goal.returns
returns c =
    let a = c.args in
    let n = c.size_word.ensures ∙ sym (at_sizes a.t.now a.feature (omega arith)) in
    let h = subst (λ (k : ℕ). a.bits < 2 ^ k) n (shift_none a.bits c.size_word.result c.if-bits-size_word-ne0.false) in
    built_meets refl refl c.in_ok-put_literal.ensures (λ s v. refl)
    (λ z. let_in c.door.ensures c.in_ok-door.was (pass (⊎_elim (λ q. omega (arith, q, length_sizes a.t.now)) (λ q. omega (arith, q, h))) z))
    (λ k. ones_size _ a.bits h) (λ y k. not_refused k)
