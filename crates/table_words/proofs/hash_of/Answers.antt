-- `table_words::hash_of` meets its contract: the hash of the words passed, below 2^32. Assumes nothing.
use Rattle.std.proofs.Common.{◌/◌, get_or, arith, ℕ, suc, ◌+◌, ◌*◌, ◌%◌, ◌<◌, ◌≡◌, refl, ap}
use native.Mathlib.Nat.{mod-lt}
use native.Mathlib.Numerals.{add-one}
use Rattle.promises.specs.Words.{hash_to, hash_of}
use Rattle.table_words.proofs.hash_of.Goals as goal

pub loop-x-init : goal.loop-x-init
unfolding hash_to
loop-x-init c = (refl, omega arith)

pub loop-x-preserved : goal.loop-x-preserved
unfolding hash_to
loop-x-preserved c =
    let l = c.loop-x in
    let e : l.x-index + 1 ≡ suc l.x-index = add-one l.x-index in
    (rw e (ap (λ (a : ℕ). (a * 2654435761 + get_or c.args.list l.x-index 0) % 4294967296) l.invariant.0), mod-lt _ (omega arith))

pub returns : goal.returns
unfolding hash_of
returns c =
    let l = c.loop-x in
    let s : l.h < 4294967296 = l.invariant.1 in
    let e : l.x-index ≡ 12 = omega arith in
    (ap (λ (x : ℕ). x / 1048576) (rw e at l.invariant.0), omega arith)
