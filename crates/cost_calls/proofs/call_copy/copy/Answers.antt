-- `cost_calls::call_copy::copy` meets its contract: the door, and the branch is there. Assumes nothing.
use Rattle.std.proofs.Common.{arith, refl}
use Rattle.cost_calls.proofs.Sounding.{sound_untidy}
use Rattle.table_calls.proofs.Drawn.{written, placed}
use Rattle.promises.specs.CostDeeds.{cost_looked}
use Rattle.cost_calls.proofs.Edge.{drawn}
use Rattle.cost_calls.proofs.Answering.{copy_ok, copy_within, copy_becomes}
use Rattle.table_calls.proofs.Meeting.{let_in, takes}
use Rattle.cost_calls.proofs.call_copy.copy.Goals as goal

pub finish-requires : goal.finish-requires
finish-requires c =
    let e = c.door.ensures in
    let t = c.in_ok-door.was in (
      sound_untidy (e.sound t) c.args.place ((e.there t).each 0 (omega arith)),
      (e.there t).each 0 (omega arith),
      copy_ok c.args.t.now c.args.from c.root_word-x.result
          c.base_word-a.result c.root_word-x.ensures c.base_word-a.ensures (e.sound t) ((e.there t).each 1 (omega arith)),
      copy_within c.args.t.now c.args.from c.root_word-x.result c.base_word-a.result
          c.root_word-x.ensures c.base_word-a.ensures (e.sound t) ((e.there t).each 1 (omega arith)),
    )

pub returns : goal.returns
returns c =
    let e = c.door.ensures in
    let t = c.in_ok-door.was in
    takes refl (let_in e t refl) (written cost_looked drawn (placed cost_looked drawn c.args.t.now c.args.from ((e.there t).each 1 (omega arith)))
    (copy_becomes c.args.t.now c.args.from c.root_word-x.result c.base_word-a.result c.root_word-x.ensures
    c.base_word-a.ensures c.finish.ensures)) tt
