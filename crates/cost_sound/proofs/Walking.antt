-- The lawful form of tested nodes, and that the walk over the shape is the walk over the nodes. Assumes nothing.
use mathlib.Core.Path.{◌≡◌, refl}
use mathlib.Core.List.{List}
use Prim.Native.Nat.{ℕ}
use Rattle.theory.specs.Walk.{scan, scans}
use Rattle.cost_words.proofs.Regular.{regular}
use Rattle.table_checks.specs.Walk.{Formed, shape, shape_roots}
use Rattle.table_checks.proofs.Shaping.{order_shape}
use Rattle.cost_sound.specs.Walk.{Ordered}
use Rattle.promises.specs.Words.{sizes}
use Rattle.promises.specs.CostWords.{cost_node_list as nodes, cost_roots as roots}

pub formed : {w : List ℕ} → Ordered w → Formed 1 w
formed o = record { header = o.header; known = λ i h. (o.nodes_ok.each i h).known; lower = λ i h. record { lower = (o.nodes_ok.each i h).lower.lower } }

pub order_is : (w : List ℕ) → scans (scan (nodes w) 0 (sizes w)) (roots w) 0 ≡ scans (scan (shape 1 w) 0 (sizes w)) (shape_roots 1 16 w) 0
unfolding roots
order_is w = order_shape regular (λ f v. refl) w
