-- `rule_calls::call_same::same` meets its contract: what the door refuses is refused, and root words tell. Assumes nothing.
use Rattle.std.proofs.Common.{arith, refl}
use Rattle.rule_calls.proofs.Answering.{same_tells}
use Rattle.table_calls.proofs.Meeting.{let_in, takes}
use Rattle.rule_calls.proofs.call_same.same.Goals as goal

pub returns : goal.returns
returns c =
    let e = c.door.ensures in
    let t = c.in_ok-door.was in
    takes refl (let_in e t refl) refl
    (same_tells (e.sound t) c.args.a c.args.b ((e.there t).each 0 (omega arith)) ((e.there t).each 1 (omega arith)) c.root_word.result
    c.root_word-2.result c.root_word.ensures c.root_word-2.ensures)
