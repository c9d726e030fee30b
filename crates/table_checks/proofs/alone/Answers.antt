-- `table_checks::alone` meets its contract: no node of the chain passed is a twin, and a node off the chain has another hash. Assumes nothing.
use Rattle.table_checks.proofs.Chaining.{sought_first, sought_next}
use Rattle.settings.proofs.Answers.{sure_not}
use Rattle.table_checks.proofs.alone.Goals as goal

pub loop-c-init : goal.loop-c-init
loop-c-init c = sought_first _ _ _ c.requires.2 (c.record_word-c.ensures)

pub loop-c-smaller : goal.loop-c-smaller
loop-c-smaller c =
    (sought_next _ _ _ _ c.requires.2 c.loop-c-test.true c.loop-c.invariant
    (sure_not c.if-same.false c.same.ensures) (c.record_word-c-in-loop-c.ensures)).1

pub loop-c-preserved : goal.loop-c-preserved
loop-c-preserved c =
    (sought_next _ _ _ _ c.requires.2 c.loop-c-test.true c.loop-c.invariant
    (sure_not c.if-same.false c.same.ensures) (c.record_word-c-in-loop-c.ensures)).0
