-- `table_collect::here` meets its contract: an end or a node that stays is its own copy, a link says another's. Assumes nothing.
use Rattle.std.proofs.Common.{arith, ◌+◌, ◌-◌, ◌≡◌, ℕ, sym}
use Rattle.table_collect.specs.Walk.{found}
use Rattle.table_collect.proofs.Keeping.{full_open, here_low, here_none}
use Rattle.table_sweep.specs.Marks.{mark}
use Rattle.table_sweep.proofs.Marking.{mark_link}
use mathlib.Core.Path.{◌∙◌}
use Rattle.table_collect.proofs.here.Goals as goal

pub returns-then-b-low : goal.returns-then-b-low
returns-then-b-low c = here_low c.requires.2 c.if-b-low.true c.requires.1

pub overflow_add-result : goal.overflow_add-result
overflow_add-result c =
    let i : ℕ = c.args.b - c.args.first in
    let says : c.record_word-c.result ≡ mark c.args.t.now i = c.record_word-c.ensures ∙ sym (mark_link c.args.t.now i (omega (arith, c.requires.2))) in
    let o = c.requires.0 in let f = o.walkable in
    omega (arith, o.marks i (omega (arith, c.requires.1)), says, (full_open o).fewer, f.within, f.most, f.least)

pub returns-then-c-gt0 : goal.returns-then-c-gt0
returns-then-c-gt0 c =
    let i : ℕ = c.args.b - c.args.first in let n = c.record_word-c.result in
    let says : c.record_word-c.result ≡ mark c.args.t.now i = c.record_word-c.ensures ∙ sym (mark_link c.args.t.now i (omega (arith, c.requires.2))) in
    found c.args.t.now c.args.b (c.args.first + (n - 1)) i (n - 1) (omega arith) (omega arith) (omega (arith, c.requires.1)) (omega (arith, says))

pub returns-else-c-gt0 : goal.returns-else-c-gt0
returns-else-c-gt0 c =
    let i : ℕ = c.args.b - c.args.first in
    let says : c.record_word-c.result ≡ mark c.args.t.now i = c.record_word-c.ensures ∙ sym (mark_link c.args.t.now i (omega (arith, c.requires.2))) in
    here_none c.args.t.now i (omega arith) (omega (arith, says))
