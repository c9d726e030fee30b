-- `table_records::pop` meets its contract: the record's words are 0, all other words are as after the chain head's store. Assumes nothing.
use Rattle.std.proofs.Common.{◌≡◌, ℕ, ◌+◌, ◌-◌, ◌*◌, ◌≤◌, List, length, set, refl, ap, arith}
use Rattle.table_words.proofs.Stores.{length_put, put_before, put_behind, length_filled, put_filled}
use Rattle.table_records.proofs.Writing.{popped}
use Rattle.promises.specs.Words.{count}
use lib.ListN.{length-set}
use Rattle.table_records.proofs.pop.Goals as goal

pub returns : goal.returns
returns c =
    let i : ℕ = c.count_word.result - 1 in
    let from : ℕ = 8192 + 16 * i in
    let m : ℕ = 8192 + 16 * i + 16 - from in
    let s : List ℕ = set c.args.t.now (4096 + c.hash_at-h.result) c.record_word.result in
    let ys : List ℕ = c.fill.new.self in
    let e : i ≡ count c.args.t.now - 1 = ap (λ (x : ℕ). x - 1) c.count_word.ensures in
    let room : from + m ≤ length s = simp length-set (omega (arith, c.requires.0.room, c.requires.0.within)) in
    let zeros = c.fill.ensures.after (λ y h. h) in
    let long : length ys ≡ m = length_filled 0 from m s ys 0 room zeros in
    rw (← e)
    (popped c.args.t.now _ i _ _ _ refl c.hash_at-h.ensures.0 c.hash_at-h.ensures.1 c.record_word.ensures (omega (arith, c.requires.0.room, c.requires.0.within))
    (length_put 0 from m s ys room long) (put_before 0 from m s ys room long) (λ j a b. put_filled 0 from m s ys 0 room zeros j a (omega arith))
    (λ j h. put_behind 0 from m s ys room long j (omega arith)))
