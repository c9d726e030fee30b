-- `table_memory::recall_in` meets its contract: the window is the part that is lent, or the scratch remembers. Assumes nothing.
use Rattle.std.proofs.Common.{arith, ℕ, ◌+◌, ◌*◌, ◌-◌, ◌≡◌, ap}
use Rattle.table_memory.proofs.Remembering.{recalls_far}
use mathlib.Core.Path.{◌∙◌}
use Rattle.promises.specs.Words.{capacity}
use Rattle.table_memory.proofs.recall_in.Goals as goal

pub returns : goal.returns
returns c =
    let n : ℕ = c.window_word-m.result in
    let from : ℕ = 8192 + 16 * c.capacity_word.result in
    let e : from ≡ 8192 + 16 * capacity c.args.t.now = ap (λ (x : ℕ). 8192 + 16 * x) c.capacity_word.ensures in
    let k : from + n - from ≡ n = omega arith in
    recalls_far c.args.t.now c.args.s.now from (from + n - from) _ c.recall-2.result c.requires e (k ∙ c.window_word-m.ensures)
    (omega (arith, c.if-m-eq0.false)) c.recall-2.ensures
