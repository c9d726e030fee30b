-- `rule_restrict::restrict_walk` meets its contract: the first v branches of the node's result are there (Filling), what is noted is right (Noted), and a branch tests a higher
-- feature, so the measure falls. Assumes nothing.
use Rattle.std.proofs.Common.{refl, arith}
use lib.ListN.{get_or-replicate}
use Rattle.rule_restrict.proofs.Walking.{walk_holds, walk_small, walk_known, walk_value, asks_here, walked_here, node_here, in_use, in_room, whose, walked_known, loop_start, asks_child, asks_walk, walk_falls, loop_more, loop_stop, asks_make, made, walked_small, walked_room, walked_in, walked_put}
use Rattle.rule_restrict.proofs.+restrict_walk.Goals as goal

pub top_of-k-requires : goal.top_of-k-requires
top_of-k-requires t c = ((walk_holds _ _ _ _ c.requires).laid.laid, walk_small _ _ _ _ c.requires)

pub child_of-requires : goal.child_of-requires
child_of-requires t c =
    (asks_here _ c.args.b c.args.f c.args.x c.requires (omega arith), walk_known _ _ _ _ c.requires, walk_value _ _ _ _ c.requires)

pub returns-then-f-k : goal.returns-then-f-k
returns-then-f-k t c = walked_here _ c.args.b c.args.f c.args.x c.requires _ (omega arith) c.child_of.ensures

pub overflow_sub-i : goal.overflow_sub-i
overflow_sub-i t c = omega (arith, node_here _ _ _ _ c.requires (omega arith))

pub note_of-requires : goal.note_of-requires
note_of-requires t c = (c.requires.room, in_room _ _ _ _ c.requires c.top_of-k.result _ c.top_of-k.ensures (omega arith) refl)

pub returns-in-Some : goal.returns-in-Some
returns-in-Some t c = walked_known _ _ _ _ c.requires c.top_of-k.result _ c.top_of-k.ensures (omega arith) refl _ c.in-Some.ensures

pub size_word-v-end-requires : goal.size_word-v-end-requires
size_word-v-end-requires t c = omega (arith, walk_known _ _ _ _ c.requires, (walk_holds _ _ _ _ c.requires).laid.laid.few, c.requires.room.room)

pub loop-v-init : goal.loop-v-init
loop-v-init t c = (
  refl,
  loop_start _ _ _ _ c.requires c.top_of-k.result _ c.top_of-k.ensures (omega arith) refl _ refl (λ u h. get_or-replicate 12 u 0 0 h),
  c.requires.noted,
)

pub child_of-c-requires : goal.child_of-c-requires
child_of-c-requires t c =
    let l = c.loop-v in
    let p = c.top_of-k in
    asks_child _ _ _ _ c.requires p.result _ p.ensures (omega arith) refl l.t l.list l.v l.invariant.1 l.invariant.2 (omega arith)

pub restrict_walk-requires : goal.restrict_walk-requires
restrict_walk-requires t c =
    let l = c.loop-v in
    let p = c.top_of-k in (
      omega (
        arith,
        walk_falls _ _ _ _ c.requires p.result _ p.ensures (omega arith) refl l.t l.list l.v l.invariant.1 l.invariant.2 _
            c.child_of-c.ensures,
      ),
      asks_walk _ _ _ _ c.requires p.result _ p.ensures (omega arith) refl l.t l.list l.v l.invariant.1 l.invariant.2 _ c.child_of-c.ensures,
    )

pub returns-in_err-list : goal.returns-in_err-list
returns-in_err-list t c =
    let l = c.loop-v in
    let p = c.top_of-k in
    rw c.from_residual.ensures
    (loop_stop _ _ _ _ c.requires p.result _ p.ensures (omega arith) refl l.t l.list l.v l.invariant.1 l.invariant.2 _ _ _ (omega arith)
    c.child_of-c.ensures c.restrict_walk.ensures c.in_err-list.was)

pub bounds-list-v : goal.bounds-list-v
bounds-list-v t c =
    let l = c.loop-v in
    let p = c.top_of-k in
    omega (arith, l.invariant.1.long, (walk_holds _ _ _ _ c.requires).laid.laid.large p.result (omega (arith, walk_known _ _ _ _ c.requires)))

pub loop-v-preserved : goal.loop-v-preserved
loop-v-preserved t c =
    let l = c.loop-v in
    let p = c.top_of-k in (
      omega (arith, l.invariant.0),
      loop_more _ _ _ _ c.requires p.result _ p.ensures (omega arith) refl l.t l.list l.v l.invariant.1 l.invariant.2 _ _ _ (omega arith)
          c.child_of-c.ensures c.restrict_walk.ensures _ c.in_ok-list.was,
      c.restrict_walk.ensures.noted,
    )

pub make-requires : goal.make-requires
make-requires t c =
    let l = c.loop-v in
    let p = c.top_of-k in
    asks_make _ _ _ _ c.requires p.result _ p.ensures (omega arith) refl l.t l.list l.v l.invariant.1 l.invariant.2 (omega arith)

pub returns-in_err-r : goal.returns-in_err-r
returns-in_err-r t c =
    let l = c.loop-v in
    let p = c.top_of-k in
    rw c.from_residual-in_err-r.ensures
    (made _ _ _ _ c.requires p.result _ p.ensures (omega arith) refl l.t l.list l.v l.invariant.1 l.invariant.2 (omega arith) _ _ _
    c.in_err-r.was c.make.ensures)

pub overflow_add-r : goal.overflow_add-r
overflow_add-r t c =
    let l = c.loop-v in
    let p = c.top_of-k in
    let y = made _ _ _ _ c.requires p.result _ p.ensures (omega arith) refl l.t l.list l.v l.invariant.1 l.invariant.2 (omega arith) _ _ _
    c.in_ok-r.was c.make.ensures in
    omega (arith, walked_small _ _ _ _ c.requires _ _ y)

pub put_note-requires : goal.put_note-requires
put_note-requires t c =
    let l = c.loop-v in
    let p = c.top_of-k in
    let y = made _ _ _ _ c.requires p.result _ p.ensures (omega arith) refl l.t l.list l.v l.invariant.1 l.invariant.2 (omega arith) _ _ _
    c.in_ok-r.was c.make.ensures in (
      walked_room _ _ _ _ c.requires _ _ y,
      walked_in _ _ _ _ c.requires _ _ y _ (in_use _ _ _ _ c.requires p.result _ p.ensures (omega arith) refl)
          (whose _ _ _ _ c.requires p.result _ p.ensures (omega arith) refl),
    )

pub returns : goal.returns
returns t c =
    let l = c.loop-v in
    let p = c.top_of-k in
    let y = made _ _ _ _ c.requires p.result _ p.ensures (omega arith) refl l.t l.list l.v l.invariant.1 l.invariant.2 (omega arith) _ _ _
    c.in_ok-r.was c.make.ensures in
    rw c.put_note.ensures (walked_put _ _ _ _ c.requires _ _ y _ (in_use _ _ _ _ c.requires p.result _ p.ensures (omega arith) refl)
    (whose _ _ _ _ c.requires p.result _ p.ensures (omega arith) refl))
