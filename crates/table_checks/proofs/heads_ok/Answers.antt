-- `table_checks::heads_ok` meets its contract: the bits by which the chain heads passed differ from the list, put together, are 0 exactly if none differs. Assumes nothing.
use Rattle.std.proofs.Common.{get_or, arith, ℕ, ap}
use Rattle.table_checks.proofs.Gathering.{Gathered, gathered_none, gathered_more, headed_all}
use lib.Bits.{bit_xor}
use mathlib.Core.Path.{subst}
use Rattle.promises.specs.Words.{bucket}
use Rattle.table_checks.proofs.heads_ok.Goals as goal

pub loop-h-init : goal.loop-h-init
loop-h-init c = gathered_none _ 0

pub loop-h-preserved : goal.loop-h-preserved
loop-h-preserved c =
    let l = c.loop-h in let a = c.args in
    gathered_more _ 0 l.h l.bits _ (ap (λ (x : ℕ). bit_xor x (get_or a.last.now l.h 0)) c.bucket_word.ensures) l.invariant

pub returns : goal.returns
returns c =
    let l = c.loop-h in let a = c.args in
    headed_all a.t.now a.last.now l.bits
    (subst (λ (n : ℕ). Gathered (λ x. bit_xor (bucket a.t.now x) (get_or a.last.now x 0)) 0 n l.bits) (omega arith) l.invariant)
