-- `cost_range::scaled_ok` meets its contract: a scaled cost is in range exactly if its scaled ends are. Assumes nothing.
use Rattle.settings.proofs.Answers.{sure, sure_not, retell}
use Rattle.cost_nodes.proofs.Reading.{pos_from}
use Rattle.cost_range.proofs.Ranging.{low_fits, high_fits, scaled_ends, scaled_low, scaled_high}
use Rattle.promises.specs.Integers.{int}
use Rattle.cost_range.proofs.scaled_ok.Goals as goal

pub product_ok-requires : goal.product_ok-requires
product_ok-requires c = let p = c.requires in (low_fits _ (pos_from _ 0 p.0.holds) _ _ _ c.span_of-e.ensures p.0.within, p.1)

pub product_ok-requires-then-product_ok : goal.product_ok-requires-then-product_ok
product_ok-requires-then-product_ok c = let p = c.requires in (high_fits _ (pos_from _ 0 p.0.holds) _ _ _ c.span_of-e.ensures p.0.within, p.1)

pub returns-then-product_ok : goal.returns-then-product_ok
returns-then-product_ok c =
    retell c.product_ok-then-product_ok.result
    (λ h. scaled_ends _ (pos_from _ 0 c.requires.0.holds) _ _ _ c.span_of-e.ensures (int c.args.c) (sure c.if-product_ok.true c.product_ok.ensures) h)
    (λ h. scaled_high _ (pos_from _ 0 c.requires.0.holds) _ _ _ c.span_of-e.ensures (int c.args.c) h)
    c.product_ok-then-product_ok.ensures

pub returns-else-product_ok : goal.returns-else-product_ok
returns-else-product_ok c =
    retell c.product_ok.result
    (λ h. absurd (sure_not c.if-product_ok.false c.product_ok.ensures h))
    (λ h. scaled_low _ (pos_from _ 0 c.requires.0.holds) _ _ _ c.span_of-e.ensures (int c.args.c) h)
    c.product_ok.ensures
