-- `sheet_calls::call_read::same_list` meets its contract: as many features, and each of the same size. Assumes nothing.
use Rattle.std.proofs.Common.{rules, sym, arith, ◌≡◌, ◌∙◌}
use borrow.Author.Tests.{tests}
use Rattle.settings.proofs.Answers.{retell, tells_eqb}
use Rattle.promises.specs.Sheet.{sheet_size}
use Rattle.promises.specs.Words.{size}
use Rattle.sheet_check.proofs.All.{tells_all}
use Rattle.sheet_calls.proofs.Lists.{many_same, size_same, list_same}
use Rattle.sheet_calls.proofs.call_read.same_list.Goals as goal

pub returns-then-n-features_word : goal.returns-then-n-features_word
returns-then-n-features_word c =
    let o = c.args.head.opens in let n = c.features-n.ensures.0 in let m = c.features_word.ensures in
    retell c.all.result (λ h. list_same c.args.t.now o (sym n ∙ c.if-n-features_word.true ∙ m) (λ k l. h k (omega (arith, n))))
    (λ e k l. size_same c.args.t.now o e k (omega (arith, n)))
    (tells_all c.features-n.result _ _ c.all.result (λ k. sheet_size c.args.head.bytes.now k ≡ size c.args.t.now k)
    c.all.ensures.ran (λ x q k. search (rules, tests)) (λ x q k. search (rules, tests)))

pub returns-else-n-features_word : goal.returns-else-n-features_word
returns-else-n-features_word c =
    let n = c.features-n.ensures.0 in let m = c.features_word.ensures in
    tells_eqb c.features-n.result c.features_word.result (λ e. absurd (c.if-n-features_word.false e)) (λ e. n ∙ many_same c.args.t.now c.args.head.opens e ∙ sym m)
