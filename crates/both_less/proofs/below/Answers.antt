-- `both_less::below` meets its contract: own words and an emptied memory are right, and with the difference of the bases the rule is that of the two costs. Assumes nothing.
use Rattle.table_memory.proofs.Remembering.{remembers_none, remembers_fresh}
use Rattle.both_less.proofs.Walking.{start_fits, start, less_start}
use Rattle.both_less.proofs.below.Goals as goal

pub difference_word-d-requires : goal.difference_word-d-requires
difference_word-d-requires c = start_fits _ _ _ _ _ _ c.requires

pub rest_result-requires : goal.rest_result-requires
rest_result-requires c = let p = c.requires in (start _ _ _ _ _ _ p _ c.difference_word-d.ensures, p.beside, remembers_fresh 6144)

pub returns-then-s-lt6144 : goal.returns-then-s-lt6144
returns-then-s-lt6144 c =
    let r = c.rest_result in less_start _ _ _ _ _ _ c.requires _
    c.difference_word-d.ensures _ r.result r.ensures.0

pub rest_result-requires-2 : goal.rest_result-requires-2
rest_result-requires-2 c =
    let p = c.requires in
    (start _ _ _ _ _ _ p _ c.difference_word-d.ensures, p.beside, remembers_none _ c.clear.ensures)

pub returns : goal.returns
returns c =
    let r = c.rest_result-2 in less_start _ _ _ _ _ _
    c.requires _
    c.difference_word-d.ensures _ r.result r.ensures.0
