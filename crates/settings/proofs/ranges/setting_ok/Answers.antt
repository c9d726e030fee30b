-- `settings::setting_ok` meets its contract. Assumes nothing.
use Rattle.std.proofs.Common.{length, get_or, arith, ℕ, ◌<◌}
use Rattle.std.specs.Prelude.{◌↔◌, IsTrue}
use borrow.Author.Rules.{rules}
use Rattle.theory.proofs.Ranges.{valid_length, valid_at, valid_from}
use Rattle.settings.proofs.Answers.{tells_iff}
use Rattle.settings.proofs.ranges.setting_ok.Goals as goal

pub returns-then-values-features : goal.returns-then-values-features
returns-then-values-features c = λ v. c.if-values-features.true (valid_length c.args.features.now c.args.values.now v)

pub returns : goal.returns
returns c =
    let e : IsTrue c.all.result ↔ ((k : ℕ) → k < length c.args.features.now → get_or c.args.values.now k 0 < get_or c.args.features.now k 0) = search rules in
    tells_iff c.all.result e (λ h. valid_from c.args.features.now c.args.values.now (omega arith) (λ j b. h j b)) (λ v k b. valid_at c.args.features.now c.args.values.now v k b)
