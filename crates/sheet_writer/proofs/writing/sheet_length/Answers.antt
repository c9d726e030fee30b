-- `sheet_writer::writing::sheet_length` meets its contract: the bytes of the first j nodes are counted. Assumes nothing.
use Rattle.std.proofs.Common.{◌≡◌, ap, ℕ, arith, length}
use mathlib.Core.Path.{◌∙◌}
use Rattle.rule_numbering.specs.Numbering.{member}
use Rattle.rule_numbering.proofs.Numbers.{few, noted_most}
use Rattle.sheet_writer.proofs.Parts.{bytes_none, length_more}
use Rattle.promises.specs.Words.{size, feature}
use Rattle.sheet_writer.proofs.writing.sheet_length.Goals as goal

pub loop-j-init : goal.loop-j-init
loop-j-init c =
    let s = c.requires.0 in
    record { counted = omega (arith, c.features_word.ensures, ap length (bytes_none c.args.t.now c.args.notes.now)); small = omega (arith, few s, c.features_word.ensures) }

pub node_of-requires : goal.node_of-requires
node_of-requires c = let l = c.loop-j in (c.requires.1.wide, omega (arith, c.requires.0.most, noted_most c.requires.0 c.requires.1))

pub overflow_add-n-in-loop-j-2 : goal.overflow_add-n-in-loop-j-2
overflow_add-n-in-loop-j-2 c =
    let l = c.loop-j in omega (arith, c.width.ensures.1, l.invariant.small, c.requires.0.most, noted_most c.requires.0 c.requires.1)

pub loop-j-preserved : goal.loop-j-preserved
loop-j-preserved c =
    let l = c.loop-j in
    let z : c.width.result ≡ size c.args.t.now (feature c.args.t.now (member c.args.notes.now l.j)) = c.width.ensures.0
    ∙ ap (λ (x : ℕ). size c.args.t.now (feature c.args.t.now x)) c.node_of.ensures in
    record { counted = omega (arith, l.invariant.counted, z, length_more c.args.t.now c.args.notes.now l.j); small = omega (arith, l.invariant.small, c.width.ensures.1) }
