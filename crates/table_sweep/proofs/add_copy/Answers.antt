-- `table_sweep::add_copy` meets its contract: before the new body the words are kept, then comes the list, then kept words again. Assumes nothing.
use Rattle.std.proofs.Common.{◌≡◌, ℕ, ◌+◌, ◌-◌, ◌*◌, ◌≤◌, List, length, get_or, set, ap, ◌∙◌, arith}
use Rattle.table_words.proofs.Stores.{length_put, put_before, put_within, put_behind}
use Rattle.table_sweep.proofs.Writing.{put}
use lib.ListN.{length-set}
use Rattle.table_sweep.proofs.add_copy.Goals as goal

pub returns : goal.returns
returns c =
    let base : ℕ = 8192 + 16 * (c.capacity_word.result + c.head_word-m.result) in
    let from : ℕ = base + 1 in
    let m : ℕ = base + 13 - from in
    let s : List ℕ = set c.args.t.now base c.record_word.result in
    let ys : List ℕ = c.copy_from_slice.new.self in
    let p = c.requires in
    let room : from + m ≤ length s = simp length-set (omega (arith, p.room, p.free)) in
    let long : length ys ≡ m = ap length c.copy_from_slice.ensures.after ∙ omega arith in (
      c.head_word-m.ensures,
      put c.args.t.now _ c.args.list.now base c.args.i _ _ _ _ _ (omega arith) c.record_word.ensures c.record_word-x.ensures
          c.record_word-y.ensures (omega arith) (omega arith) p
          (length_put 0 from m s ys room long) (put_before 0 from m s ys room long)
          (λ u h. put_within 0 from m s ys room long u (omega arith) ∙ ap (λ (l : List ℕ). get_or l u 0) c.copy_from_slice.ensures.after)
          (λ j h. put_behind 0 from m s ys room long j (omega arith)),
    )
