-- `table_memory::recall_at` meets its contract: so many words of the entry are the same as those of the key. Assumes nothing.
use Rattle.std.proofs.Common.{arith, refl}
use Rattle.table_memory.proofs.Entries.{key_is}
use Rattle.table_memory.proofs.recall_at.Goals as goal

pub returns : goal.returns
returns c =
    let l = c.loop-j in
    (c.args.i, record { inside = c.requires; keyed = key_is _ _ _ _ refl c.requires (λ j h. l.invariant j (omega arith)); first = refl; second = refl })
