-- `table_calls::fitting::setting_fits` meets its contract: the values passed are below their sizes. Assumes nothing.
use Rattle.std.proofs.Common.{arith, length, ℕ, ◌<◌, ◌≡◌, sym, ◌∙◌}
use Rattle.table_words.proofs.Words.{length_sizes, at_sizes}
use Rattle.theory.proofs.Ranges.{valid_length, valid_at, valid_from}
use Rattle.promises.specs.Words.{features, sizes}
use Rattle.table_calls.proofs.fitting.setting_fits.Goals as goal

pub returns-then-setting-features_word : goal.returns-then-setting-features_word
returns-then-setting-features_word c =
    λ v. c.if-setting-features_word.true (valid_length (sizes c.args.t.now) c.args.setting.now v
    ∙ length_sizes c.args.t.now ∙ sym c.features_word.ensures)

pub returns-then-size_word-from : goal.returns-then-size_word-from
returns-then-size_word-from c =
    λ v. let k : ℕ = c.loop-k.k in
    let f : k < features c.args.t.now = omega (arith, c.features_word.ensures) in
    omega (
      arith,
      valid_at (sizes c.args.t.now) c.args.setting.now v k (omega (arith, length_sizes c.args.t.now)),
      at_sizes c.args.t.now k f,
      c.size_word.ensures,
    )

pub returns : goal.returns
returns c =
    let w = c.args.t.now in
    let n : length c.args.setting.now ≡ features w = omega (arith, c.features_word.ensures) in
    valid_from (sizes w) c.args.setting.now (n ∙ sym (length_sizes w))
    (λ j h. let f : j < features w = omega (arith, length_sizes w) in omega (arith, c.loop-k.invariant j (omega arith), at_sizes w j f))
