-- `table_memory::remember_at` meets its contract: the key's first j words are written, the words around the entry are as before. Assumes nothing.
use Rattle.std.proofs.Common.{arith}
use Rattle.table_memory.proofs.Entries.{stored}
use Rattle.table_memory.proofs.remember_at.Goals as goal

pub returns : goal.returns
returns c =
    let l = c.loop-j in
    stored c.args.s.now l.s c.args.key.now c.args.i _ _ c.requires l.invariant.0 l.invariant.1 (λ u h. l.invariant.2 u (omega arith)) (λ i h. l.invariant.3 i (omega arith))
