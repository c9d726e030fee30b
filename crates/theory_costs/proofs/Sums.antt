-- Add, subtract and scale: bounds of what the work on two targets meets. Assumes nothing.
use mathlib.Core.Path.{◌≡◌, ap, ◌∙◌, subst}
use mathlib.Core.List.{List, ◌∷◌}
use Prim.Native.Nat.{ℕ, suc, ◌<◌}
use lib.IntN.{ℤ, pos, ◌+ℤ◌, ◌-ℤ◌, +ℤ_idr}
use lib.ListN.{length}
use Rattle.theory.specs.Settings.{Pos, zeros}
use Rattle.theory.specs.Diagrams.{Node, Target}
use Rattle.theory.specs.WellFormed.{Under, WellFormed}
use Rattle.theory.specs.Costs.{costs}
use Rattle.theory.proofs.Ranges.{zeros_valid}
use Rattle.theory_costs.specs.Relative.{branch_at, pair_from}
use Rattle.theory_costs.specs.Narrow.{Spread}
use Rattle.theory_costs.proofs.Integers.{minus_zero}
use Rattle.theory_costs.proofs.Relative.{branch_under, from_zeros}
use Rattle.theory_costs.proofs.Adding.{Splits, pair_step, splits_zero}
use Rattle.promises.specs.Integers.{Fit}
use Rattle.promises.specs.Range.{Within}
use Rattle.promises.specs.CostSound.{from}

-- a result of spread D adds within ±D at each branch
pub pair_fits : (F : ℤ → ℤ → ℤ) (q : Splits F) (S : List ℕ) (N : List (Node costs)) → WellFormed S N → {D : ℕ} (k n : ℕ) (ns : List ℕ) → Pos (n ∷ ns) → (t u : Target costs) →
    Under N (length N) k t → Under N (length N) k u → Spread D (n ∷ ns) (pair_from F N k t u) → (v : ℕ) → v < n → Fit D (F (branch_at N k t v).adds (branch_at N k u v).adds)
pair_fits F q S N w {D} k n ns p t u o1 o2 h v l =
    subst (Fit D) ((λ i. there i -ℤ here i) ∙ minus_zero a)
    (h.apart (v ∷ zeros ns) (zeros (n ∷ ns)) (l, zeros_valid ns p.1) (zeros_valid (n ∷ ns) p))
  where
    a : ℤ
    a = F (branch_at N k t v).adds (branch_at N k u v).adds

    rest : (pair_from F N (suc k) (branch_at N k t v).to (branch_at N k u v).to (zeros ns)).off ≡ pos 0
    rest =
        (λ i. F (from_zeros N (suc k) S w ns (branch_at N k t v).to (branch_under N k S w t v o1) i) (from_zeros N (suc k) S w ns (branch_at N k u v).to (branch_under N k S w u v o2) i))
        ∙ splits_zero F q

    there : (pair_from F N k t u (v ∷ zeros ns)).off ≡ a
    there = ap (λ x. x.off) (pair_step F q N k t u v (zeros ns)) ∙ ap (λ (z : ℤ). a +ℤ z) rest ∙ +ℤ_idr a

    here : (pair_from F N k t u (zeros (n ∷ ns))).off ≡ pos 0
    here = (λ i. F (from_zeros N k S w (n ∷ ns) t o1 i) (from_zeros N k S w (n ∷ ns) u o2 i)) ∙ splits_zero F q

-- before the range is known: sums and differences of what lies within ±D lie within ±E, as the lowest and the highest do
pub pair_within : (F : ℤ → ℤ → ℤ) {D E : ℕ} → ((x y : ℤ) → Fit D x → Fit D y → Fit E (F x y)) → (ns : List ℕ) (N : List (Node costs)) (k : ℕ) (t u : Target costs) →
    Within D ns (from N k t) → Within D ns (from N k u) → Within E ns (pair_from F N k t u)
pair_within F h ns N k t u ht hu = record { fits = λ s x. h (from N k t s).off (from N k u s).off (ht.fits s x) (hu.fits s x) }
