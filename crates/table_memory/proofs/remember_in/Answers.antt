-- `table_memory::remember_in` meets its contract: one result more in the window, lent as a part, or in the scratch. Assumes nothing.
use Rattle.std.proofs.Common.{arith, ℕ, ◌+◌, ◌*◌, ◌-◌, ◌≡◌, ap}
use Rattle.table_memory.proofs.Remembering.{stored_far}
use mathlib.Core.Path.{◌∙◌}
use Rattle.promises.specs.Words.{capacity}
use Rattle.table_memory.proofs.remember_in.Goals as goal

pub returns : goal.returns
returns c =
    let n : ℕ = c.window_word-m.result in
    let from : ℕ = 8192 + 16 * c.capacity_word.result in
    let e : from ≡ 8192 + 16 * capacity c.args.t.now = ap (λ (x : ℕ). 8192 + 16 * x) c.capacity_word.ensures in
    let k : from + n - from ≡ n = omega arith in
    stored_far c.args.t.now c.args.s.now c.remember-2.new.s from (from + n - from) _ _ _ c.requires.0 e (k ∙ c.window_word-m.ensures)
    (omega (arith, c.if-m-eq0.false)) c.remember-2.ensures
