-- `sheet_writer::writing::put_node` meets its contract: the feature, and the first v branches after it (begun). Assumes nothing.
use Rattle.std.proofs.Common.{◌≡◌, ◌<◌, arith}
use Rattle.rule_numbering.proofs.Numbers.{few, known, branch_below, word_small}
use Rattle.sheet_laying.proofs.Putting.{puts_none, puts_after, puts_same, puts_long}
use Rattle.sheet_writer.proofs.Parts.{begun_none, begun_more, begun_all, length_begun, length_in}
use Rattle.promises.specs.Words.{size, feature}
use Rattle.sheet_writer.proofs.writing.put_node.Goals as goal

pub put_byte-requires : goal.put_byte-requires
put_byte-requires c =
    let s = c.requires.0 in (
      omega (arith, c.requires.3, length_in c.args.t.now c.args.notes.now c.args.i),
      omega (arith, c.record_word.ensures, known s c.args.i c.requires.2, few s),
    )

pub loop-v-init : goal.loop-v-init
loop-v-init c = puts_same (begun_none c.args.t.now c.args.notes.now c.args.i) (puts_none _)

pub renumber-requires : goal.renumber-requires
renumber-requires c =
    let s = c.requires.0 in let l = c.loop-v in
    let hv : l.v < size c.args.t.now (feature c.args.t.now c.args.i) = omega (arith, c.width-v-end.ensures.0) in
    let b = branch_below s c.args.i l.v c.requires.2 hv in
    (c.requires.1.long, omega (arith, c.record_word-in-loop-v.ensures, s.most, c.requires.2), word_small s c.requires.1 c.record_word-in-loop-v.result (omega (arith, c.record_word-in-loop-v.ensures, c.requires.2)))

pub put_branch-requires : goal.put_branch-requires
put_branch-requires c =
    let s = c.requires.0 in let l = c.loop-v in
    let hv : l.v < size c.args.t.now (feature c.args.t.now c.args.i) = omega (arith, c.width-v-end.ensures.0) in
    let b = branch_below s c.args.i l.v c.requires.2 hv in (
      omega (
        arith,
        l.invariant.ends,
        puts_long l.invariant,
        c.put_byte.ensures.ends,
        puts_long c.put_byte.ensures,
        c.requires.3,
        length_begun c.args.t.now c.args.notes.now c.args.i l.v,
        length_in c.args.t.now c.args.notes.now c.args.i,
      ),
      omega (arith, c.renumber.ensures, word_small s c.requires.1 c.record_word-in-loop-v.result (omega (arith, c.record_word-in-loop-v.ensures, c.requires.2))),
    )

pub loop-v-preserved : goal.loop-v-preserved
loop-v-preserved c =
    let l = c.loop-v in
    puts_same (begun_more c.args.t.now c.args.notes.now c.args.i l.v)
    (puts_after l.invariant (rw (c.renumber.ensures, c.record_word-in-loop-v.ensures) at c.put_branch.ensures))

pub returns : goal.returns
returns c =
    let l = c.loop-v in
    let e : l.v ≡ size c.args.t.now (feature c.args.t.now c.args.i) = omega (arith, c.width-v-end.ensures.0) in
    puts_same (begun_all c.args.t.now c.args.notes.now c.args.i) (puts_after
    (rw c.record_word.ensures at c.put_byte.ensures) (rw e at l.invariant))
