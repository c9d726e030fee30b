-- `rule_restrict::clear_notes` meets its contract: of the far words only the notes of nodes i and up may still not be 0 (Clearing). Assumes nothing.
use Rattle.std.proofs.Common.{length, arith, ◌≡◌, refl, sym, ap}
use Rattle.table_notes.proofs.Plain.{length_plain}
use Rattle.rule_restrict.proofs.Noting.{clearing_more, clearing_all}
use mathlib.Core.Path.{◌∙◌}
use Rattle.promises.specs.Words.{count}
use Rattle.rule_restrict.proofs.clear_notes.Goals as goal

pub loop-i-init : goal.loop-i-init
loop-i-init c = record { same = refl; room = c.requires.0; within = c.requires.1; only = c.requires.2 }

pub put_note-requires : goal.put_note-requires
put_note-requires c = (c.loop-i.invariant.room, omega (arith, c.loop-i.invariant.within))

pub loop-i-preserved : goal.loop-i-preserved
loop-i-preserved c = rw c.put_note.ensures (clearing_more _ c.loop-i.t c.loop-i.i _ c.loop-i.invariant (omega arith))

pub shape_of-t : goal.shape_of-t
shape_of-t c = sym (length_plain c.loop-i.t) ∙ ap length c.loop-i.invariant.same ∙ length_plain c.args.t.now

pub returns : goal.returns
returns c =
    let e : c.loop-i.i ≡ count c.args.t.now = omega arith in
    clearing_all _ c.loop-i.t (count c.args.t.now) (rw e at c.loop-i.invariant)
