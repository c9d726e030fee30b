-- `table_records::push` meets its contract: the list stands in the body, all other words are as after the feature's store. Assumes nothing.
use Rattle.std.proofs.Common.{◌≡◌, ℕ, ◌+◌, ◌-◌, ◌*◌, ◌≤◌, List, length, get_or, set, refl, ap, ◌∙◌, arith}
use Rattle.table_words.proofs.Stores.{length_put, put_before, put_within, put_behind}
use Rattle.table_records.proofs.Writing.{pushed}
use lib.ListN.{length-set}
use Rattle.table_records.proofs.push.Goals as goal

pub returns : goal.returns
returns c =
    let i : ℕ = c.count_word-n.result in
    let from : ℕ = 8192 + 16 * i + 1 in
    let m : ℕ = 8192 + 16 * i + 13 - from in
    let s : List ℕ = set c.args.t.now (8192 + 16 * i) c.args.k in
    let ys : List ℕ = c.copy_from_slice.new.self in
    let room : from + m ≤ length s = simp length-set (omega (arith, c.requires.0.room, c.requires.0.within)) in
    let long : length ys ≡ m = ap length c.copy_from_slice.ensures.after ∙ omega arith in (
      c.count_word-n.ensures,
      pushed c.args.t.now _ c.args.list c.args.k _ _ _ _ _ _ _ c.count_word-n.ensures refl refl
          c.hash_of-h.ensures.0 c.hash_of-h.ensures.1 c.bucket_word-next.ensures (omega (arith, c.requires.0.room, c.requires.0.within))
          (length_put 0 from m s ys room long) (put_before 0 from m s ys room long) (λ j h. put_behind 0 from m s ys room long j (omega arith))
          (λ u h. put_within 0 from m s ys room long u (omega arith) ∙ ap (λ (l : List ℕ). get_or l u 0) c.copy_from_slice.ensures.after),
    )
