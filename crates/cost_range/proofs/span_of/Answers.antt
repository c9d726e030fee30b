-- `cost_range::span_of` meets its contract: what is kept for the target with the added integer, which is a cost in range. Assumes nothing.
use Rattle.std.proofs.Common.{arith, true, false}
use Rattle.cost_nodes.proofs.Reading.{ok_small}
use Rattle.cost_range.proofs.Ranging.{end_fits, end_side}
use Rattle.cost_range.proofs.span_of.Goals as goal

pub kept_span-below-requires : goal.kept_span-below-requires
kept_span-below-requires c =
    let d = c.requires.holds.laid.laid in let y = ok_small _ 0 c.args.a.to c.args.a.adds c.requires.ok in
    record { room = omega (arith, y, d.room, d.within); most = omega (arith, y, d.most, d.within) }

pub sum_word-requires : goal.sum_word-requires
sum_word-requires c = end_fits _ c.args.a.to c.args.a.adds c.requires false _ (c.kept_span-below.ensures.keeps false)

pub sum_word-requires-2 : goal.sum_word-requires-2
sum_word-requires-2 c = end_fits _ c.args.a.to c.args.a.adds c.requires true _ (c.kept_span-below.ensures.keeps true)

pub returns : goal.returns
returns c =
    record {
      lowest = end_side _ c.args.a.to c.args.a.adds c.requires false _ (c.kept_span-below.ensures.keeps false) _ c.sum_word.ensures;
      highest = end_side _ c.args.a.to c.args.a.adds c.requires true _ (c.kept_span-below.ensures.keeps true) _ c.sum_word-2.ensures;
    }
