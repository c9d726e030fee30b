-- `sheet_writer::writing::put_sizes` meets its contract: the first k sizes stand one after the other. Assumes nothing.
use Rattle.std.proofs.Common.{◌≡◌, sym, ◌<◌, arith}
use native.Mathlib.Numerals.{add-one}
use Rattle.table_words.proofs.Tab.{tab_none, tab_snoc, length_tab}
use Rattle.rule_numbering.proofs.Numbers.{few, size_most}
use Rattle.sheet_laying.proofs.Putting.{puts_none, puts_after, puts_same, puts_long}
use Rattle.promises.specs.Words.{features, size, sizes}
use Rattle.sheet_writer.proofs.writing.put_sizes.Goals as goal

pub loop-k-init : goal.loop-k-init
loop-k-init c = rw tab_none (puts_none _)

pub size_word-requires : goal.size_word-requires
size_word-requires c = let s = c.requires.0 in omega (arith, few s, s.room)

pub put_byte-requires : goal.put_byte-requires
put_byte-requires c =
    let s = c.requires.0 in let l = c.loop-k in
    let h : l.k < features c.args.t.now = omega (arith, c.features_word-k-end.ensures) in
    (omega (arith, l.invariant.ends, length_tab (size c.args.t.now) l.k, puts_long l.invariant, c.requires.1), omega (arith, c.size_word.ensures, size_most s l.k h))

pub loop-k-preserved : goal.loop-k-preserved
loop-k-preserved c =
    let l = c.loop-k in
    rw add-one (puts_same (sym (tab_snoc (size c.args.t.now) l.k)) (puts_after l.invariant (rw c.size_word.ensures at c.put_byte.ensures)))

pub returns : goal.returns
unfolding sizes
returns c = let l = c.loop-k in let e : l.k ≡ features c.args.t.now = omega (arith, c.features_word-k-end.ensures) in rw e at l.invariant
