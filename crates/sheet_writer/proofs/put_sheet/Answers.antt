-- `sheet_writer::put_sheet` meets its contract: what is numbered from nothing is what building the rule gives (run_one); its sections are put, or nothing is. Assumes nothing.
use Rattle.std.proofs.Common.{rules, refl, sym, arith}
use Rattle.rule_numbering.proofs.Running.{run_one}
use Rattle.sheet_laying.proofs.Putting.{puts_after, puts_long}
use Rattle.sheet_writer.proofs.Parts.{length_front, laid_short, laid_whole}
use Rattle.sheet_writer.proofs.Walks.{sound_walkable, sound_stands, sound_run}
use Rattle.sheet_writer.proofs.put_sheet.Goals as goal

pub number_run-requires : goal.number_run-requires
number_run-requires c = (sound_walkable c.requires.0, sound_run c.requires.0 c.args.place c.requires.1, c.new-notes.ensures)

pub sheet_length-n-requires : goal.sheet_length-n-requires
sheet_length-n-requires c = (sound_walkable c.requires.0, c.number_run.ensures.noted)

pub returns-then-out-n : goal.returns-then-out-n
returns-then-out-n c = laid_short _ _ _ _ (run_one c.number_run.ensures) (omega (arith, c.sheet_length-n.ensures))

pub put_front-requires : goal.put_front-requires
put_front-requires c = (sound_walkable c.requires.0, omega (arith, c.sheet_length-n.ensures))

pub put_back-requires : goal.put_back-requires
put_back-requires c =
    let p = c.put_front.ensures in (
      sound_walkable c.requires.0,
      c.number_run.ensures.noted,
      rw c.root_word.ensures (sound_stands c.requires.0 c.args.place c.requires.1),
      omega (arith, c.sheet_length-n.ensures, p.ends, puts_long p, length_front c.args.t.now),
    )

pub returns : goal.returns
returns c =
    let p = puts_after c.put_front.ensures (rw c.root_word.ensures at c.put_back.ensures) in
    laid_whole _ _ _ _ (run_one c.number_run.ensures) refl (omega (arith, c.sheet_length-n.ensures)) p (search (rules, sym p.same))
