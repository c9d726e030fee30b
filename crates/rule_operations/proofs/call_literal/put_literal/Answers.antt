-- `rule_operations::call_literal::put_literal` meets its contract: the bits are the branches of one node, and what was made is settled. Assumes nothing.
use Rattle.rule_settling.proofs.Settling.{sound_holds, settle_asks, settles}
use Rattle.rule_operations.proofs.Bits.{literal_listed, literal_made}
use Rattle.promises.specs.Operators.{literal_of}
use Rattle.rule_operations.proofs.call_literal.put_literal.Goals as goal

pub make-r-requires : goal.make-r-requires
make-r-requires c =
    let s = sound_holds c.requires.0 in
    (s, c.requires.2, literal_listed c.args.t.now c.args.feature c.args.bits c.bits_of-list.result s c.requires.2 (rw c.size_word.ensures at c.bits_of-list.ensures))

pub settle-requires : goal.settle-requires
settle-requires c =
    settle_asks (literal_of c.args.feature c.args.bits) c.make-r.result c.requires.0
    (literal_made c.args.t.now c.args.feature c.args.bits c.bits_of-list.result (sound_holds c.requires.0) c.requires.2
    (rw c.size_word.ensures at c.bits_of-list.ensures) _ _ c.make-r.ensures) c.requires.1 c.count_word-used.ensures

pub returns : goal.returns
returns c =
    settles (literal_of c.args.feature c.args.bits) c.make-r.result c.requires.0
    (literal_made c.args.t.now c.args.feature c.args.bits c.bits_of-list.result (sound_holds c.requires.0) c.requires.2
    (rw c.size_word.ensures at c.bits_of-list.ensures) _ _ c.make-r.ensures) c.requires.1 c.count_word-used.ensures c.settle.ensures
