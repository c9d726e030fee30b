-- `sheet_reader::take_branch` meets its contract: the first v branches of the node's result are there (Filling), what is noted is right (Noted), and a branch word lies below that
-- of its node, so the measure falls. Assumes nothing.
use Rattle.std.proofs.Common.{arith, refl}
use Rattle.sheet_reader.proofs.Walking.{takes_phrase, takes_known, loop_start, asks_branch, branch_falls, loop_more, loop_stop, asks_make, made, takes_small, takes_put}
use lib.ListN.{get_or-replicate}
use Rattle.sheet_reader.proofs.+take_branch.Goals as goal

pub returns-then-b-lt-NUMBERS : goal.returns-then-b-lt-NUMBERS
returns-then-b-lt-NUMBERS t c = let s = c.args.sheet in takes_phrase s.good s.laid.placed c.requires _ c.if-b-lt-NUMBERS.true refl

pub returns-then-known-gt0 : goal.returns-then-known-gt0
returns-then-known-gt0 t c = let s = c.args.sheet in takes_known s.good s.laid.placed c.requires c.if-b-lt-NUMBERS.false refl _ refl (omega arith)

pub loop-v-init : goal.loop-v-init
loop-v-init t c =
    let s = c.args.sheet in record {
      long = refl;
      filling = loop_start s.good s.laid.placed c.requires c.if-b-lt-NUMBERS.false refl c.feature-k.ensures.0 _ refl (λ u h. get_or-replicate 12 u 0 0 h);
      noted = c.requires.noted;
    }

pub take_branch-requires : goal.take_branch-requires
take_branch-requires t c =
    let s = c.args.sheet in let l = c.loop-v in let i = l.invariant in let h = c.if-b-lt-NUMBERS.false in (
      omega (arith, branch_falls s.good s.laid.placed c.requires h refl c.feature-k.ensures.0 i.filling i.noted (omega (arith, c.width-v-end.ensures.0)) c.branch-sheet.ensures.0),
      asks_branch s.good s.laid.placed c.requires h refl c.feature-k.ensures.0 i.filling i.noted (omega (arith, c.width-v-end.ensures.0)) c.branch-sheet.ensures.0,
    )

pub returns-in_err-r : goal.returns-in_err-r
returns-in_err-r t c =
    let s = c.args.sheet in let i = c.loop-v.invariant in
    rw c.from_residual.ensures
    (loop_stop s.good s.laid.placed c.requires c.if-b-lt-NUMBERS.false refl c.feature-k.ensures.0 i.filling i.noted (omega (arith, c.width-v-end.ensures.0))
    c.branch-sheet.ensures.0 c.in_err-r.ensures refl)

pub loop-v-preserved : goal.loop-v-preserved
loop-v-preserved t c =
    let s = c.args.sheet in let i = c.loop-v.invariant in record {
      long = omega (arith, i.long);
      filling = loop_more s.good s.laid.placed c.requires c.if-b-lt-NUMBERS.false refl c.feature-k.ensures.0 i.filling i.noted (omega (arith, c.width-v-end.ensures.0))
          c.branch-sheet.ensures.0 c.in_ok-r.ensures refl;
      noted = c.in_ok-r.ensures.noted;
    }

pub make-requires : goal.make-requires
make-requires t c =
    let s = c.args.sheet in let i = c.loop-v.invariant in
    asks_make s.good s.laid.placed c.requires c.if-b-lt-NUMBERS.false refl c.feature-k.ensures.0 i.filling i.noted (omega (arith, c.width-v-end.ensures.0))

pub returns-in_err-r-2 : goal.returns-in_err-r-2
returns-in_err-r-2 t c =
    let s = c.args.sheet in let i = c.loop-v.invariant in
    rw c.from_residual-in_err-r-2.ensures
    (made s.good s.laid.placed c.requires c.if-b-lt-NUMBERS.false refl c.feature-k.ensures.0 i.filling i.noted (omega (arith, c.width-v-end.ensures.0)) c.in_err-r-2.was c.make.ensures)

pub overflow_add-notes : goal.overflow_add-notes
overflow_add-notes t c =
    let s = c.args.sheet in let i = c.loop-v.invariant in let h = c.if-b-lt-NUMBERS.false in
    let y = made s.good s.laid.placed c.requires h refl c.feature-k.ensures.0 i.filling i.noted (omega (arith, c.width-v-end.ensures.0)) c.in_ok-r-2.was c.make.ensures in
    omega (arith, takes_small s.good s.laid.placed c.requires h refl y)

pub returns : goal.returns
returns t c =
    let s = c.args.sheet in let i = c.loop-v.invariant in let h = c.if-b-lt-NUMBERS.false in
    let y = made s.good s.laid.placed c.requires h refl c.feature-k.ensures.0 i.filling i.noted (omega (arith, c.width-v-end.ensures.0)) c.in_ok-r-2.was c.make.ensures in
    takes_put s.good s.laid.placed c.requires h refl y
