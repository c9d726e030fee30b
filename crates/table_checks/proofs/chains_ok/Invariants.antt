-- `table_checks::chains_ok` meets its contract: the nodes passed are chained and alone, and the list holds the ends of their chains. Assumes nothing.
use Rattle.table_checks.proofs.Chaining.{Chaining}
use Rattle.table_checks.proofs.chains_ok.Given as goal

abbrev pub invariant-loop-i : goal.invariant-loop-i
invariant-loop-i l = Chaining l.t l.i l.last
