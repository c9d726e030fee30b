-- `table_calls::matching::same_features` meets its contract: the sizes passed are equal. Assumes nothing.
use Rattle.std.proofs.Common.{arith, sym, ◌∙◌}
use Rattle.table_calls.proofs.Lists.{lists_equal, as_long, as_large}
use Rattle.table_calls.proofs.matching.same_features.Goals as goal

pub returns-then-features_word-n : goal.returns-then-features_word-n
returns-then-features_word-n c = λ q. c.if-features_word-n.true (c.features_word.ensures ∙ as_long _ _ q ∙ sym c.features_word-n.ensures)

pub returns-then-size_word : goal.returns-then-size_word
returns-then-size_word c =
    λ q. c.if-size_word.true (c.size_word.ensures ∙ as_large _ _ q c.loop-k.k
    (omega (arith, c.features_word-n.ensures)) (omega (arith, c.features_word-n.ensures, as_long _ _ q)) ∙ sym c.size_word-in-loop-k.ensures)

pub returns : goal.returns
returns c = lists_equal _ _ (sym c.features_word.ensures ∙ c.if-features_word-n.false ∙ c.features_word-n.ensures) (λ j h. c.loop-k.invariant j (omega (arith, c.features_word-n.ensures)))
