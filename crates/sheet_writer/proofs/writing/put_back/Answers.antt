-- `sheet_writer::writing::put_back` meets its contract: two sections, each its count and its items. Assumes nothing.
use Rattle.std.proofs.Common.{sym, arith}
use mathlib.Core.Path.{◌∙◌}
use Rattle.sheet_bytes.specs.Sections.{section}
use Rattle.rule_numbering.proofs.Numbers.{noted_most, stands_below, word_small, length_numbered}
use Rattle.sheet_writer.proofs.Parts.{root_bytes}
use Rattle.sheet_laying.proofs.Putting.{puts_after, puts_same, puts_long, length_two}
use Rattle.sheet_writer.proofs.writing.put_back.Goals as goal

pub put_two-requires : goal.put_two-requires
put_two-requires c = (omega (arith, c.requires.3), omega (arith, c.requires.0.most, noted_most c.requires.0 c.requires.1))

pub put_nodes-requires : goal.put_nodes-requires
put_nodes-requires c =
    let p = c.put_two.ensures in
    (c.requires.0, c.requires.1, omega (arith, p.ends, length_two c.count.result, puts_long p, c.requires.3))

pub put_two-requires-2 : goal.put_two-requires-2
put_two-requires-2 c =
    let p = c.put_two.ensures in let q = c.put_nodes.ensures in
    (omega (arith, p.ends, length_two c.count.result, puts_long p, q.ends, puts_long q, c.requires.3), omega arith)

pub renumber-requires : goal.renumber-requires
renumber-requires c =
    let o = stands_below c.requires.0 c.args.b c.requires.2 in (c.requires.1.long, omega (arith, c.requires.0.most), word_small c.requires.0 c.requires.1 c.args.b o)

pub put_branch-requires : goal.put_branch-requires
put_branch-requires c =
    let p = c.put_two.ensures in let q = c.put_nodes.ensures in let r = c.put_two-2.ensures in (
      omega (arith, p.ends, length_two c.count.result, puts_long p, q.ends, puts_long q, r.ends, length_two 1, puts_long r, c.requires.3),
      omega (arith, c.renumber.ensures, word_small c.requires.0 c.requires.1 c.args.b (stands_below c.requires.0 c.args.b c.requires.2)),
    )

pub returns : goal.returns
unfolding section
returns c =
    puts_after (puts_after (rw (c.count.ensures ∙ sym (length_numbered c.args.t.now c.args.notes.now c.args.notes.now.count)) at c.put_two.ensures) c.put_nodes.ensures)
    (puts_after c.put_two-2.ensures (puts_same (root_bytes _) (rw c.renumber.ensures at c.put_branch.ensures)))

pub overflow_cast-count : goal.overflow_cast-count
overflow_cast-count c = omega (arith, c.requires.0.most, noted_most c.requires.0 c.requires.1)
