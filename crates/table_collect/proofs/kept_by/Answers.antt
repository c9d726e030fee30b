-- `table_collect::kept_by` meets its contract: a is 1 + the highest node that is a root of the first q places. Assumes nothing.
use Rattle.std.proofs.Common.{arith, sym}
use Rattle.table_collect.proofs.Keeping.{highest_upto}
use Rattle.table_sweep.proofs.Marking.{highest_none, highest_up, highest_stay}
use native.Mathlib.Numerals.{add-one}
use mathlib.Core.Path.{◌∙◌}
use Rattle.table_collect.proofs.kept_by.Goals as goal
use Rattle.table_collect.proofs.kept_by.Goals.{then-first-a, else-first-a}

pub loop-q-init : goal.loop-q-init
loop-q-init c = sym (highest_none c.args.first c.args.t.now)

pub overflow_add-first : goal.overflow_add-first
overflow_add-first c =
    let l = c.loop-q in let k = c.requires in let f = k.walkable in
    omega (arith, highest_upto k l.q (omega arith), l.invariant, f.least, f.within, f.most)

pub loop-q-preserved : goal.loop-q-preserved
loop-q-preserved c =
    let l = c.loop-q in let e = c.head_word-b.ensures in let a = c.args in
    rw add-one (elim c.if-first-a.branch [
      | then-first-a w ↦ w.a-is ∙ highest_up a.first a.t.now l.q l.invariant e w.if-first-a.true
      | else-first-a w ↦ w.a-is ∙ highest_stay a.first a.t.now l.q l.invariant e w.if-first-a.false
    ])
