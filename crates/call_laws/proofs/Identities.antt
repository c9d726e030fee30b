-- THE LAWS OF COST ARITHMETIC at one setting: those of integers. Assumes nothing.
use mathlib.Core.Path.{◌≡◌, ap, ap₂, ◌∙◌}
use mathlib.Core.List.{List}
use Prim.Native.Nat.{ℕ}
use lib.IntN.{ℤ, ◌+ℤ◌, +ℤ_comm, +ℤ_assoc, +ℤ-neg_ℤ_cancel}
use Rattle.theory.specs.Costs.{Cost, amount}
use Rattle.theory_costs.proofs.Choosing.{smaller_moves}
use Rattle.theory_costs.proofs.Products.{mul_sum}
use Rattle.promises.specs.CostOperations.{smaller_of, sum, difference, smaller, scaled}

smaller_on : (c x y : ℤ) → smaller_of (x +ℤ c) (y +ℤ c) ≡ smaller_of x y +ℤ c
smaller_on c x y = ap₂ smaller_of (+ℤ_comm x c) (+ℤ_comm y c) ∙ smaller_moves.moves c x y ∙ +ℤ_comm c (smaller_of x y)

module _ (f g : Cost) (s : List ℕ) where
  pub sum_order : sum f g s ≡ sum g f s
  sum_order = ap amount (+ℤ_comm (f s).off (g s).off)

  pub sum_grouping : (h : Cost) → sum (sum f g) h s ≡ sum f (sum g h) s
  sum_grouping h = ap amount (+ℤ_assoc (f s).off (g s).off (h s).off)

  pub sum_undone : difference (sum f g) g s ≡ f s
  sum_undone = ap amount (+ℤ-neg_ℤ_cancel (f s).off (g s).off)

  pub smaller_sums : (h : Cost) → smaller (sum f h) (sum g h) s ≡ sum (smaller f g) h s
  smaller_sums h = ap amount (smaller_on (h s).off (f s).off (g s).off)

  pub scaled_sum : (c : ℤ) → scaled c (sum f g) s ≡ sum (scaled c f) (scaled c g) s
  scaled_sum c = ap amount (mul_sum (f s).off (g s).off c)
