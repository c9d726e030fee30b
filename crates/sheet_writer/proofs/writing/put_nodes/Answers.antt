-- `sheet_writer::writing::put_nodes` meets its contract: the first j nodes stand one after the other. Assumes nothing.
use Rattle.std.proofs.Common.{sym, ap, ℕ, ◌+◌, arith}
use Rattle.rule_numbering.proofs.Numbers.{noted_most}
use Rattle.sheet_writer.proofs.Parts.{length_in, bytes_none, bytes_more, length_more, length_fewer}
use Rattle.sheet_laying.proofs.Putting.{puts_none, puts_after, puts_same, puts_long}
use Rattle.promises.specs.Words.{size, feature}
use Rattle.sheet_writer.proofs.writing.put_nodes.Goals as goal

pub loop-j-init : goal.loop-j-init
loop-j-init c = puts_same (sym (bytes_none c.args.t.now c.args.notes.now)) (puts_none _)

pub node_of-requires : goal.node_of-requires
node_of-requires c = let l = c.loop-j in (c.requires.1.wide, omega (arith, c.requires.0.most, noted_most c.requires.0 c.requires.1))

pub put_node-requires : goal.put_node-requires
put_node-requires c =
    let l = c.loop-j in let w = c.args.t.now in let n = c.args.notes.now in (
      c.requires.0,
      c.requires.1,
      omega (arith, c.node_of.ensures, c.requires.1.inside l.j (omega arith)),
      omega (
        arith,
        l.invariant.ends,
        puts_long l.invariant,
        c.requires.2,
        length_in w n c.node_of.result,
        length_more w n l.j,
        length_fewer w n (l.j + 1) c.args.notes.now.count (omega arith),
        ap (λ (x : ℕ). size w (feature w x)) c.node_of.ensures,
      ),
    )

pub loop-j-preserved : goal.loop-j-preserved
loop-j-preserved c =
    let l = c.loop-j in
    puts_same (bytes_more c.args.t.now c.args.notes.now l.j) (puts_after l.invariant (rw c.node_of.ensures at c.put_node.ensures))
