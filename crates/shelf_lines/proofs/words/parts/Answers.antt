-- The parts that the loop took are all that the text has between its marks.
use Rattle.std.proofs.Common.{◌<◌}
use Rattle.std.proofs.lemmas.Iterator.Consumers.{YieldsList-end}
use Rattle.std.proofs.lemmas.Iterator.Splits.{YieldsList-from_str_split}
use Rattle.shelf_lines.proofs.words.parts.Goals as goal

pub returns-clause-between_marks : goal.returns-clause-between_marks
returns-clause-between_marks c = λ (ascii : c.args.mark < 128).
    let all = YieldsList-end (YieldsList-from_str_split c.args.mark c.args.text.now ascii (cc) (cc) (cc)) c.loop-part.yielded _ c.loop-part.yielded_by _ _ c.in-None.is c.next.ensures.steps in
    rw c.loop-part.invariant.kept all.0
