-- `table_collect::tidy` meets its contract: unlinked, only the nodes that stay are marked; the roots from p to q are copied and set, no more copies than nodes come back. Assumes nothing.
use Rattle.std.proofs.Common.{arith}
use Rattle.table_collect.specs.Walk.{rootless, rooted}
use Rattle.table_collect.proofs.Keeping.{lawful_linked, unlinked_at, unlinked_open, unlinked_rooted, full_open, keeps, root_next, swept_bare}
use native.Mathlib.Numerals.{add-one}
use Rattle.table_collect.proofs.tidy.Goals as goal

pub unlink-requires : goal.unlink-requires
unlink-requires c = lawful_linked c.requires c.kept_by-a.ensures

pub loop-q-init : goal.loop-q-init
loop-q-init c =
    let l = c.requires in
    let x = unlinked_at c.kept_by-a.ensures c.unlink.ensures in
    (unlinked_open l x, unlinked_rooted l x, omega (arith, x.stay, c.kept_by-a.ensures), rootless _ _)

pub overflow_add-first : goal.overflow_add-first
overflow_add-first c =
    let l = c.loop-q.invariant in let f = l.0.walkable in omega (arith, l.2, (full_open l.0).fewer, l.0.stay, f.within, f.most, f.least)

pub copy_branch-r-requires : goal.copy_branch-r-requires
copy_branch-r-requires c =
    let l = c.loop-q.invariant in let q = root_next l.0 l.1 (omega arith) l.3 in
    (q.opened, rw c.head_word-b.ensures q.below, omega (arith, l.2, q.stay))

pub loop-q-preserved : goal.loop-q-preserved
loop-q-preserved c =
    let l = c.loop-q.invariant in
    (l.0, l.1, l.2, rw add-one (rooted _ l.3 (omega (arith, l.1.many)) (rw c.head_word-b.ensures at c.copy_branch-r.ensures)))

pub bring_back-requires : goal.bring_back-requires
bring_back-requires c = let l = c.loop-q.invariant in full_open (keeps l.3 l.0).open_still

pub relink-requires : goal.relink-requires
relink-requires c =
    swept_bare c.requires
    (unlinked_at c.kept_by-a.ensures c.unlink.ensures) c.loop-q.invariant.3 c.bring_back.ensures c.kept_by-a.ensures
