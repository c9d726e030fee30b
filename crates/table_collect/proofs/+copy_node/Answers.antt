-- `table_collect::copy_node` meets its contract: a branch word of a node says an earlier node, so the measure falls; the first v branches stand in the body (Filling). Assumes nothing.
use Rattle.std.proofs.Common.{arith, refl, ◌-◌}
use Rattle.table_collect.specs.Walk.{Done, moves_step, empty}
use Rattle.table_collect.proofs.Keeping.{copy_at, asks, goes, lays, fills, spare, copies}
use lib.ListN.{get_or-replicate}
use native.Mathlib.Numerals.{add-one}
use Rattle.table_collect.proofs.+copy_node.Goals as goal
use Rattle.table_collect.proofs.+copy_node.Goals.{in-Some, in-None}

pub loop-v-init : goal.loop-v-init
loop-v-init t c =
    record {
      opened = c.requires.0;
      lowest = c.requires.3;
      there = c.requires.1;
      none = c.requires.2;
      many = c.width-v-end.ensures;
      upto = omega arith;
      long = refl;
      turns = empty _ _ c.args.i (λ u h. get_or-replicate 12 u 0 0 h);
    }

pub here-requires : goal.here-requires
here-requires t c = asks c.loop-v.invariant (omega arith) c.way_word-x.ensures

pub copy_node-r-requires : goal.copy_node-r-requires
copy_node-r-requires t c =
    let g = goes c.loop-v.invariant (omega arith) c.way_word-x.ensures c.in-None.ensures (c.way_word-x.result - c.args.first) refl in
    (omega (arith, g.0), (g.1, g.2, g.3, g.4))

pub lay_branch-requires : goal.lay_branch-requires
lay_branch-requires t c =
    let made : Done c.args.first c.loop-v.t c.match-here.t (moves_step c.way_word-x.result c.match-here.r) =
    elim c.match-here.branch [
      | in-None w ↦ rw (w.t-is, w.r-is) (copy_at w.in-None.ensures refl w.copy_node-r.ensures)
      | in-Some w ↦ rw (w.t-is, w.r-is) w.in-Some.ensures
    ] in
    lays c.loop-v.invariant (omega arith) c.way_word-x.ensures made

pub loop-v-preserved : goal.loop-v-preserved
loop-v-preserved t c =
    let made : Done c.args.first c.loop-v.t c.match-here.t (moves_step c.way_word-x.result c.match-here.r) =
    elim c.match-here.branch [
      | in-None w ↦ rw (w.t-is, w.r-is) (copy_at w.in-None.ensures refl w.copy_node-r.ensures)
      | in-Some w ↦ rw (w.t-is, w.r-is) w.in-Some.ensures
    ] in
    rw add-one (fills c.loop-v.invariant (omega arith) c.way_word-x.ensures made c.lay_branch.ensures)

pub add_copy-requires : goal.add_copy-requires
add_copy-requires t c = spare c.loop-v.invariant

pub overflow_cast-result : goal.overflow_cast-result
overflow_cast-result t c = let s = spare c.loop-v.invariant in omega (arith, s.free, s.most, c.add_copy.ensures.0)

pub overflow_add-result : goal.overflow_add-result
overflow_add-result t c =
    let l = c.loop-v.invariant in let s = spare l in
    omega (arith, s.free, s.most, l.opened.walkable.least, c.add_copy.ensures.0)

pub returns : goal.returns
returns t c =
    let l = c.loop-v.invariant in let p = c.add_copy.ensures in
    copies l (omega arith) (omega (arith, p.0)) p.1
