-- `rule_numbering::Notes::number` meets its contract: a branch word of a node says an earlier node, so the measure falls; the first v branches are numbered (Numbering). Assumes nothing.
use Rattle.std.proofs.Common.{◌≡◌, ◌-◌, ◌<◌, arith}
use native.Mathlib.Numerals.{add-one}
use Rattle.rule_numbering.proofs.Numbers.{some_marked, none_marked, node_below, branch_below, branch_stands, numbers_phrase, numbers_done, numbering_none, numbering_more, room_left, numbers_new}
use Rattle.promises.specs.Words.{size, feature}
use Rattle.rule_numbering.proofs.Notes.+number.Goals as goal

pub returns-then-b-lt-NUMBERS : goal.returns-then-b-lt-NUMBERS
returns-then-b-lt-NUMBERS t c = numbers_phrase c.requires.0 c.requires.1 c.args.b c.if-b-lt-NUMBERS.true

pub returns-then-is_some : goal.returns-then-is_some
returns-then-is_some t c =
    numbers_done c.requires.0 c.requires.1 c.args.b (c.args.b - 65536) (node_below c.requires.0 c.if-b-lt-NUMBERS.false c.requires.2) (omega arith) (some_marked _ c.if-is_some.ensures)

pub width-m-requires : goal.width-m-requires
width-m-requires t c = (c.requires.0, node_below c.requires.0 c.if-b-lt-NUMBERS.false c.requires.2)

pub loop-v-init : goal.loop-v-init
loop-v-init t c =
    let s = c.requires.0 in let m = numbering_none s c.requires.1 (c.args.b - 65536) in
    record { numbering = m; room = room_left s (node_below s c.if-b-lt-NUMBERS.false c.requires.2) (none_marked _ c.if-is_some.ensures) m }

pub bounds-self-i : goal.bounds-self-i
bounds-self-i t c = omega (arith, node_below c.requires.0 c.if-b-lt-NUMBERS.false c.requires.2, c.requires.0.most)

pub bounds-self-i-2 : goal.bounds-self-i-2
bounds-self-i-2 t c = omega (arith, node_below c.requires.0 c.if-b-lt-NUMBERS.false c.requires.2, c.requires.0.most)

pub overflow_cast-self-2 : goal.overflow_cast-self-2
overflow_cast-self-2 t c = omega (arith, node_below c.requires.0 c.if-b-lt-NUMBERS.false c.requires.2, c.requires.0.most)

pub record_word-requires : goal.record_word-requires
record_word-requires t c =
    let s = c.requires.0 in let h = node_below s c.if-b-lt-NUMBERS.false c.requires.2 in
    (omega (arith, s.room, c.width-m.ensures.1), omega (arith, s.most), omega (arith, c.width-m.ensures.1))

pub number-requires : goal.number-requires
number-requires t c =
    let s = c.requires.0 in let l = c.loop-v in let h = node_below s c.if-b-lt-NUMBERS.false c.requires.2 in
    let hv : l.v < size c.args.t.now (feature c.args.t.now (c.args.b - 65536)) = omega arith in (
      omega (arith, c.record_word.ensures, branch_below s (c.args.b - 65536) l.v h hv),
      (s, l.invariant.numbering.noted, rw c.record_word.ensures (branch_stands s (c.args.b - 65536) l.v h hv)),
    )

pub loop-v-preserved : goal.loop-v-preserved
loop-v-preserved t c =
    let s = c.requires.0 in let l = c.loop-v in let h = node_below s c.if-b-lt-NUMBERS.false c.requires.2 in
    let hv : l.v < size c.args.t.now (feature c.args.t.now (c.args.b - 65536)) = omega arith in
    let m = numbering_more s h hv l.invariant.numbering (rw c.record_word.ensures at c.number.ensures) in
    record { numbering = rw add-one m; room = room_left s h (none_marked _ c.if-is_some.ensures) m }

pub returns : goal.returns
returns t c =
    let s = c.requires.0 in let l = c.loop-v in let h = node_below s c.if-b-lt-NUMBERS.false c.requires.2 in
    let e : l.v ≡ size c.args.t.now (feature c.args.t.now (c.args.b - 65536)) = omega arith in
    numbers_new s h c.requires.1 (none_marked _ c.if-is_some.ensures) (rw e at l.invariant.numbering) c.args.b (omega arith)
