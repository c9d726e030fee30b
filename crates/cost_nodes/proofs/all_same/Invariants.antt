-- `cost_nodes::all_same` meets its contract: in the loop the first v targets and added words of the body equal the first. Assumes nothing.
use Rattle.std.proofs.Common.{ℕ, ◌<◌, ◌≡◌}
use Rattle.table_words.specs.Words.{listed}
use Rattle.promises.specs.CostWords.{goes as goes_at, added}
use Rattle.cost_nodes.proofs.all_same.Given as goal

abbrev pub invariant-loop-v : goal.invariant-loop-v
invariant-loop-v l =
    (l.goes ≡ goes_at (listed l.list) 0) × (l.adds ≡ listed l.list 4) × ((u : ℕ) → u < l.v → goes_at (listed l.list) u ≡ goes_at (listed l.list) 0) ×
    ((u : ℕ) → u < l.v → added (listed l.list) u ≡ listed l.list 4)
