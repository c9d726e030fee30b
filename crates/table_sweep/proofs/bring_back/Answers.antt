-- `table_sweep::bring_back` meets its contract: the far records stand in the near ones' place and are 0 (HalfBack). Assumes nothing.
use Rattle.std.proofs.Common.{ℕ, ◌+◌, ◌*◌, ◌≤◌, arith}
use Rattle.table_sweep.proofs.Bringing.{back_at_once, brought}
use Rattle.table_sweep.proofs.bring_back.Goals as goal

pub returns : goal.returns
returns c =
    let f = c.requires in
    let far : ℕ = 8192 + 16 * c.capacity_word.result in
    let s : ℕ = 16 * c.head_word.result in
    let e : ℕ = 16 * c.count_word.result in
    let order : (s ≤ e) × (8192 + e ≤ far) = (omega (arith, f.stay, f.fewer), omega (arith, f.within)) in
    brought far s e c.head_word-m.result f c.head_word-m.ensures (omega arith) (omega arith) (omega arith)
    (back_at_once c.args.t.now c.copy_within.new.self c.fill.new.self far s e _ c.copy_within.ensures.len order.0 order.1 (omega (arith, f.room, f.within)) (omega arith) c.copy_within.ensures.by_index (c.fill.ensures.after (λ y h. h)))
