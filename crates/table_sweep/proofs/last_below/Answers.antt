-- `table_sweep::last_below` meets its contract: each node met is the last of its hash below the one before (Going). Assumes nothing.
use Rattle.std.proofs.Common.{arith, ◌-◌, sym, ap}
use Rattle.table_sweep.proofs.Cutting.{here, going_more, going_last}
use Rattle.table_words.proofs.Chains.{last_none}
use mathlib.Core.Path.{◌∙◌}
use Rattle.promises.specs.Words.{hash_at, last_of}
use Rattle.table_sweep.proofs.last_below.Goals as goal

-- below node 0 there is none
pub returns-then-a-eq0 : goal.returns-then-a-eq0
returns-then-a-eq0 c = let f = hash_at c.args.t.now in sym (ap (last_of f (c.args.h - 4096)) c.if-a-eq0.true ∙ last_none f (c.args.h - 4096))

pub record_word-c-requires : goal.record_word-c-requires
record_word-c-requires c =
    let i = c.loop-c.invariant in let p = i.0 in let n = here p i.1 c.loop-c-test.true in
    (omega (arith, n, p.room, p.within), omega (arith, n, p.within, p.most), omega arith)

pub loop-c-smaller : goal.loop-c-smaller
loop-c-smaller c = let i = c.loop-c.invariant in (going_more i.0 i.1 c.loop-c-test.true c.record_word-c.ensures).0

pub loop-c-preserved : goal.loop-c-preserved
loop-c-preserved c = let i = c.loop-c.invariant in (i.0, (going_more i.0 i.1 c.loop-c-test.true c.record_word-c.ensures).1)

pub returns : goal.returns
returns c = let i = c.loop-c.invariant in going_last i.0 i.1 (omega arith)
