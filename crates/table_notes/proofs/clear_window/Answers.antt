-- `table_notes::clear_window` meets its contract: the window and the word that says it are made 0, and past them all is. Assumes nothing.
use Rattle.std.proofs.Common.{arith, rules, ℕ, ◌+◌, ◌*◌, ◌-◌, ◌≡◌, ◌∙◌, sym, ap}
use Rattle.table_notes.proofs.Windows.{window_none, cleared_window}
use Rattle.promises.specs.Words.{capacity}
use Rattle.table_notes.proofs.clear_window.Goals as goal

pub returns-then-m-eq0 : goal.returns-then-m-eq0
returns-then-m-eq0 c = window_none c.args.t.now c.requires (sym c.window_word-m.ensures ∙ c.if-m-eq0.true)

pub returns : goal.returns
returns c =
    let n : ℕ = c.window_word-m.result in
    let from : ℕ = 8192 + 16 * c.capacity_word.result in
    let e : from ≡ 8192 + 16 * capacity c.args.t.now = ap (λ (x : ℕ). 8192 + 16 * x) c.capacity_word.ensures in
    let k : from + n - from ≡ n = omega arith in
    cleared_window c.args.t.now c.requires c.set_window.new.t c.clear.new.s from (from + n - from) c.set_window.ensures e (k ∙ c.window_word-m.ensures)
    (search rules) c.clear.ensures
