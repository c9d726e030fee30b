-- `table_notes::begin` meets its contract: the window is in the far records, or the scratch remembers. Assumes nothing.
use Rattle.std.proofs.Common.{arith, sym, List, ℕ}
use Rattle.table_notes.specs.Far.{Begun}
use Rattle.table_notes.proofs.Windows.{begun_scratch, begun_far}
use mathlib.Core.Path.{subst}
use Rattle.table_notes.proofs.begin.Goals as goal

pub returns-then-wanted-lent : goal.returns-then-wanted-lent
returns-then-wanted-lent c = begun_scratch c.args.t.now c.args.lent _ c.requires c.if-wanted-lent.true

pub returns-then-room-min : goal.returns-then-room-min
returns-then-room-min c = begun_scratch c.args.t.now c.args.lent _ c.requires (omega arith)

pub returns : goal.returns
returns c =
    subst (λ (u : List ℕ). Begun c.args.t.now u c.args.lent 0) (sym c.set_window.ensures)
    (begun_far c.args.t.now _ c.requires.roomy c.requires.some c.args.lent c.requires (omega (arith, c.requires.some)) (omega (arith, c.requires.some)))
