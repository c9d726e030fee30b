-- A cost table is a lawful holder, the features that are left from one on, its target words are small, and it keeps each node's own pair. Assumes nothing.
use mathlib.Core.Bool.{Bool}
use mathlib.Core.Path.{◌≡◌, ap, ◌∙◌}
use mathlib.Core.List.{List, ◌∷◌}
use Prim.Native.Nat.{ℕ, suc, ◌≤◌, ◌<◌}
use native.Mathlib.Omega.{arith}
use lib.ListN.{length, drop}
use Rattle.theory.specs.Settings.{Pos}
use Rattle.theory.specs.WellFormed.{Ok}
use Rattle.theory.proofs.Lists.{pos_drop}
use Rattle.theory_costs.specs.Extremes.{Passed}
use Rattle.theory_costs.specs.Narrow.{Narrow}
use Rattle.table_words.specs.Holding.{Lawful}
use Rattle.table_words.proofs.Filling as F
use Rattle.table_words.proofs.Words.{length_sizes, at_sizes}
use Rattle.table_records.proofs.Making as M
use Rattle.cost_words.specs.Table.{cost_table}
use Rattle.cost_words.proofs.Pairing.{spared_pairs, pairs_passed}
use Rattle.table_words.proofs.Reading.{goal_below}
use Rattle.cost_words.proofs.Reading.{length_nodes}
use Rattle.cost_words.proofs.Regular.{regular}
use Rattle.cost_nodes.specs.Nodes.{layout, Holds}
use Rattle.promises.specs.Range.{add_most}
use Rattle.promises.specs.Words.{features, size, sizes, count}
use Rattle.promises.specs.CostSound.{kept, side_of}
use Rattle.promises.specs.CostWords.{cost_branch as branch, cost_node_list as nodes}

pub lawful : Lawful layout
lawful = M.lawful cost_table

-- ---- the features that are left
pub pos_from : (w : List ℕ) (k : ℕ) → Holds w → Pos (drop k (sizes w))
pos_from w k ok = pos_drop k (sizes w) (lawful.positive w ok.laid)

pub sizes_from : (w : List ℕ) (k : ℕ) → k < features w → drop k (sizes w) ≡ size w k ∷ drop (suc k) (sizes w)
sizes_from w k h = F.sizes_from lawful w k (omega (arith, length_sizes w)) ∙ ap (λ (n : ℕ). n ∷ drop (suc k) (sizes w)) (at_sizes w k h)

-- a target word of the table
pub ok_small : (w : List ℕ) (k x a : ℕ) → Ok (nodes w) k (branch x a) → x ≤ count w
ok_small w k x a g = omega (arith, goal_below regular (nodes w) (length (nodes w)) k x g, length_nodes w)

-- the table keeps each node's own, where its nodes are narrow
pub holds_passed : (w : List ℕ) → Holds w → Narrow add_most (sizes w) (nodes w) → (up : Bool) → Passed (side_of up) (nodes w) (length (nodes w)) (kept up w)
holds_passed w ok nr = pairs_passed w (lawful.positive w ok.laid) ok.wf (spared_pairs w (lawful.positive w ok.laid) ok.wf nr ok.laid.spared)
