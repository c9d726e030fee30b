-- `cost_calls::call_same::same` meets its contract: the door, and root words and bases tell. Assumes nothing.
use Rattle.std.proofs.Common.{arith, refl}
use Rattle.cost_calls.proofs.Answering.{same_other, same_tells}
use Rattle.table_calls.proofs.Meeting.{let_in, takes}
use Rattle.cost_calls.proofs.call_same.same.Goals as goal

pub returns-then-root_word : goal.returns-then-root_word
returns-then-root_word c =
    let e = c.door.ensures in
    let t = c.in_ok-door.was in
    takes refl (let_in e t refl) refl
    (same_tells (e.sound t) c.args.a c.args.b ((e.there t).each 0 (omega arith)) ((e.there t).each 1 (omega arith))
    c.root_word.result c.root_word-2.result c.base_word.result c.base_word-then-root_word.result
    c.root_word.ensures c.root_word-2.ensures c.if-root_word.true c.base_word.ensures
    c.base_word-then-root_word.ensures)

pub returns-else-root_word : goal.returns-else-root_word
returns-else-root_word c =
    let e = c.door.ensures in
    let t = c.in_ok-door.was in
    takes refl (let_in e t refl) refl
    (same_other (e.sound t) c.args.a c.args.b ((e.there t).each 0 (omega arith)) ((e.there t).each 1 (omega arith)) c.root_word.result
    c.root_word-2.result c.root_word.ensures c.root_word-2.ensures c.if-root_word.false)
