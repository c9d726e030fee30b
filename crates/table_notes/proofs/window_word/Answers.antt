-- `table_notes::window_word` meets its contract: it is the last word of the far records. Assumes nothing.
use Rattle.std.proofs.Common.{get_or, ℕ, ◌+◌, ◌*◌, ◌-◌, ◌∙◌, sym, ap}
use Rattle.table_notes.proofs.Far.{at_window}
use Rattle.table_notes.proofs.window_word.Goals as goal

pub returns : goal.returns
returns c = ap (λ (x : ℕ). get_or c.args.t.now (8192 + 32 * x - 1) 0) c.capacity_word.ensures ∙ sym (at_window c.args.t.now c.requires.some)
