-- What is kept for nodes is right in a longer list; a node that means the same has the same sums. Assumes nothing.
use mathlib.Core.Path.{◌≡◌, sym, ap, ◌∙◌}
use mathlib.Core.List.{List, ◌++◌}
use Prim.Native.Nat.{ℕ, ◌≤◌}
use native.Mathlib.Omega.{arith}
use lib.IntN.{ℤ}
use lib.ListN.{length, drop}
use Rattle.theory.specs.Functions.{Agree}
use Rattle.theory.specs.Diagrams.{Node, at, node}
use Rattle.theory.specs.Costs.{costs}
use Rattle.theory.proofs.WellFormed.{at_more}
use Rattle.theory_costs.specs.Extremes.{Passed, own}
use Rattle.theory_costs.proofs.Extremes.{extreme_agree}
use Rattle.promises.specs.CostSound.{extreme, from, sum_below}

module _ (op : ℤ → ℤ → ℤ) where
  -- more nodes at the end: the first m keep theirs
  pub passed_longer : (N M : List (Node costs)) (m : ℕ) (f : ℕ → ℤ) → m ≤ length N → Passed op N m f → Passed op (N ++ M) m f
  passed_longer N M m f u q = record { each = λ i h. q.each i h ∙ ap (own op f) (sym (at_more N M i (omega arith))) }

  -- a node that means the same elsewhere has the same sum, so its words are copied as they are
  pub sum_copied : (S : List ℕ) (N M : List (Node costs)) (i j : ℕ) → (at N i).feature ≡ (at M j).feature →
      Agree (drop (at N i).feature S) (from N (at N i).feature (node i)) (from M (at N i).feature (node j)) → sum_below op S N i ≡ sum_below op S M j
  unfolding sum_below
  sum_copied S N M i j e a =
      extreme_agree op (drop (at N i).feature S) (from N (at N i).feature (node i)) (from M (at N i).feature (node j)) a
      ∙ ap (λ (k : ℕ). extreme op (drop k S) (from M k (node j))) e
