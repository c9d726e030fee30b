-- `rule_next::Search::smallest` meets its contract: no value passed leads to the number. Assumes nothing.
use Rattle.std.proofs.Common.{ℕ, ◌+◌, ◌≤◌, ◌<◌}
use lib.ListN.{drop}
use Rattle.theory.specs.Counted.{Given}
use Rattle.theory.specs.Functions.{held}
use Rattle.rule_next.specs.Marks.{rule_from}
use Rattle.promises.specs.Words.{sizes}
use Rattle.rule_next.proofs.Search.smallest.Given as goal

abbrev pub invariant-loop-v : goal.invariant-loop-v
invariant-loop-v l = (y : ℕ) → y < l.v → l.from ≤ y → Given (drop (l.k + 1) (sizes l.self.t.now)) (held y (rule_from l.self.t.now l.k l.b)) l.self.number → ⊥
