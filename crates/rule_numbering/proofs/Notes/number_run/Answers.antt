-- `rule_numbering::Notes::number_run` meets its contract: the first q places are numbered in turn (Ran). Assumes nothing.
use Rattle.std.proofs.Common.{ℕ, sym, arith}
use mathlib.Core.Path.{subst}
use Rattle.rule_numbering.specs.Running.{Ran}
use native.Mathlib.Numerals.{add-one}
use Rattle.rule_numbering.proofs.Running.{ran_none, ran_more}
use Rattle.rule_numbering.proofs.Notes.number_run.Goals as goal

pub loop-q-init : goal.loop-q-init
loop-q-init c = subst (λ (r : ℕ). Ran c.args.t.now c.args.self.now c.args.place 0 r) (sym c.requires.2.empty) (ran_none c.requires.0 c.args.place c.requires.2)

pub loop-q-preserved : goal.loop-q-preserved
loop-q-preserved c = rw add-one (ran_more c.requires.0 c.requires.1 (omega arith) c.loop-q.invariant (rw c.root_word.ensures at c.number.ensures))
