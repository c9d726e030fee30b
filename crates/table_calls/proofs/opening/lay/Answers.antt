-- `table_calls::opening::lay` meets its contract: cleared, the bases set, then the header written. Assumes nothing.
use Rattle.std.proofs.Common.{arith, length, refl}
use mathlib.Core.Path.{◌∙◌}
use lib.ListN.{length-set}
use Rattle.table_calls.proofs.Opened.{named}
use Rattle.table_calls.proofs.opening.lay.Goals as goal

pub bounds-t-1 : goal.bounds-t-1
bounds-t-1 c = simp length-set (omega (arith, c.write_bases.ensures.long, c.clear.ensures.long, c.requires.room))

pub bounds-t-2 : goal.bounds-t-2
bounds-t-2 c = simp length-set (omega (arith, c.write_bases.ensures.long, c.clear.ensures.long, c.requires.room))

pub write_sizes-requires : goal.write_sizes-requires
write_sizes-requires c = (c.requires.list.few, simp length-set (omega (arith, c.write_bases.ensures.long, c.clear.ensures.long, c.requires.room)))

pub shape_of-t : goal.shape_of-t
shape_of-t c = c.write_sizes.ensures.long ∙ simp length-set (c.write_bases.ensures.long ∙ c.clear.ensures.long)

pub returns : goal.returns
returns c =
    named c.args.kind c.args.capacity (length c.args.features.now) c.requires
    refl refl c.clear.ensures c.write_bases.ensures
    c.write_sizes.ensures
