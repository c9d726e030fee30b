-- `table_notes::clear_far` meets its contract: the far records, lent as a part, are made 0. Assumes nothing.
use Rattle.std.proofs.Common.{arith, rules, ℕ, ◌+◌, ◌*◌, ◌-◌, ◌≡◌, refl, ap}
use Rattle.table_notes.proofs.Windows.{cleared_far}
use Rattle.promises.specs.Words.{capacity}
use Rattle.table_notes.proofs.clear_far.Goals as goal

pub returns : goal.returns
returns c =
    let n : ℕ = 16 * c.capacity_word.result in
    let e : n ≡ 16 * capacity c.args.t.now = ap (λ (x : ℕ). 16 * x) c.capacity_word.ensures in
    cleared_far c.args.t.now c.clear.new.s n (8192 + n) (8192 + n + n - (8192 + n)) c.requires e refl (omega arith) (search rules) c.clear.ensures
