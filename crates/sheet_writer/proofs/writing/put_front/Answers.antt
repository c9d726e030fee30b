-- `sheet_writer::writing::put_front` meets its contract: two sections, each its count and its items. Assumes nothing.
use Rattle.std.proofs.Common.{sym, arith}
use mathlib.Core.Path.{◌∙◌}
use Rattle.table_words.proofs.Words.{length_sizes}
use Rattle.rule_numbering.proofs.Numbers.{few}
use Rattle.sheet_bytes.specs.Sections.{section}
use Rattle.sheet_laying.proofs.Putting.{puts_after, puts_long, length_two}
use Rattle.sheet_writer.proofs.writing.put_front.Goals as goal

pub put_byte-requires : goal.put_byte-requires
put_byte-requires c = let p = c.put_two.ensures in (omega (arith, p.ends, length_two 1, puts_long p, c.requires.1), omega arith)

pub put_two-requires-2 : goal.put_two-requires-2
put_two-requires-2 c =
    let p = c.put_two.ensures in let q = c.put_byte.ensures in let s = c.requires.0 in
    (omega (arith, p.ends, length_two 1, puts_long p, q.ends, puts_long q, c.requires.1), omega (arith, c.features_word.ensures, few s))

pub put_sizes-requires : goal.put_sizes-requires
put_sizes-requires c =
    let p = c.put_two.ensures in let q = c.put_byte.ensures in let r = c.put_two-2.ensures in
    (c.requires.0, omega (arith, p.ends, length_two 1, puts_long p, q.ends, puts_long q, r.ends, length_two c.features_word.result, puts_long r, c.requires.1))

pub returns : goal.returns
unfolding section
returns c =
    puts_after (puts_after c.put_two.ensures c.put_byte.ensures) (puts_after
    (rw (c.features_word.ensures ∙ sym (length_sizes c.args.t.now)) at c.put_two-2.ensures) c.put_sizes.ensures)
