-- `table_checks::chains_ok` meets its contract: the nodes passed are chained and alone, and the list holds the ends of their chains. Assumes nothing.
use Rattle.std.proofs.Common.{rules, refl}
use Rattle.table_checks.proofs.Chaining.{chaining_none, chaining_more, linked_more}
use Rattle.settings.proofs.Answers.{sure}
use lib.ListN.{get_or-replicate}
use Rattle.table_checks.proofs.chains_ok.Goals as goal

pub loop-i-init : goal.loop-i-init
loop-i-init c = chaining_none _ _ (search rules) (λ h g. get_or-replicate 4096 h 0 0 g)

pub loop-i-preserved : goal.loop-i-preserved
loop-i-preserved c =
    let l = c.loop-i in let g = c.hash_at-h.ensures in
    chaining_more _ _ _ _ _ l.invariant (linked_more _ _ _ _ _ l.invariant g.0 g.1 c.record_word.ensures c.if-record_word-last.false) (sure c.if-not-alone.false c.alone.ensures) g.0 g.1 refl
