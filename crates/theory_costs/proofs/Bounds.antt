-- Below the nodes of a narrow list all sums, and so all added integers, lie within ±D. Assumes nothing.
use mathlib.Core.Path.{◌≡◌, refl, sym, ap, ◌∙◌, subst}
use mathlib.Core.List.{List, [], ◌∷◌}
use Prim.Native.Nat.{ℕ, suc, ◌<◌}
use native.Mathlib.Nat.{le_refl}
use native.Mathlib.Decide.{ℕ_discrete}
use native.Mathlib.Omega.{arith}
use lib.IntN.{ℤ, ◌+ℤ◌, ◌-ℤ◌, +ℤ_idr}
use lib.ListN.{length, get_or, drop}
use Rattle.theory.specs.Settings.{Pos, Valid, zeros}
use Rattle.theory.specs.Diagrams.{Branch, Node, Target, at, blank, leaf, node}
use Rattle.theory.specs.WellFormed.{Under, WellFormed}
use Rattle.theory.specs.Costs.{costs}
use Rattle.theory.proofs.Lists.{drop_head}
use Rattle.theory.proofs.Ranges.{zeros_valid}
use Rattle.theory_costs.specs.Relative.{branch_at}
use Rattle.theory_costs.specs.Narrow.{Spread, Narrow}
use Rattle.theory_costs.proofs.Integers.{fit_zero, minus_zero, minus_self}
use Rattle.theory_costs.proofs.Relative.{offs, from_step, from_wait, from_end, from_zeros, branch_here, branch_under}
use Rattle.promises.specs.Integers.{Fit}
use Rattle.promises.specs.Range.{Within}
use Rattle.promises.specs.CostSound.{from}

module _ {D : ℕ} (S : List ℕ) (N : List (Node costs)) (w : WellFormed S N) (nr : Narrow D S N) where
  -- below any target
  pub under_spread : (k : ℕ) (ns : List ℕ) → drop k S ≡ ns → (t : Target costs) → Under N (length N) k t → Spread D ns (from N k t)
  under_spread k ns rest (leaf e) o =
      record { apart = λ s r x y. subst (Fit D) (sym (λ i. (from_end N k s i).off -ℤ (from_end N k r i).off)) (fit_zero D) }
  under_spread k [] rest (node i) o = record { apart = one }
    where
      one : (s r : List ℕ) → Valid [] s → Valid [] r → Fit D ((from N k (node i) s).off -ℤ (from N k (node i) r).off)
      one [] [] x y = subst (Fit D) (sym (minus_self (from N k (node i) []).off)) (fit_zero D)
      one (v ∷ s) r x y = absurd x
      one [] (u ∷ r) x y = absurd y
  under_spread k (n ∷ ns) rest (node i) o = go (ℕ_discrete (at N i).feature k) (under_spread (suc k) ns (drop_head S k n ns rest).2 (node i))
    where
      wait : Under N (length N) (suc k) (node i) → Spread D ns (from N (suc k) (node i)) → Spread D (n ∷ ns) (from N k (node i))
      wait q ih = record { apart = two }
        where
          two : (s r : List ℕ) → Valid (n ∷ ns) s → Valid (n ∷ ns) r → Fit D ((from N k (node i) s).off -ℤ (from N k (node i) r).off)
          two [] r x y = absurd x
          two (v ∷ s) [] x y = absurd y
          two (v ∷ s) (u ∷ r) x y = subst (Fit D) (sym (λ j. (from_wait N k (node i) v s q j).off -ℤ (from_wait N k (node i) u r q j).off)) (ih.apart s r x.1 y.1)

      go : Dec ((at N i).feature ≡ k) → (Under N (length N) (suc k) (node i) → Spread D ns (from N (suc k) (node i))) → Spread D (n ∷ ns) (from N k (node i))
      go (yes f) ih = subst (λ (ms : List ℕ). Spread D ms (from N k (node i))) rest (subst (λ (j : ℕ). Spread D (drop j S) (from N j (node i))) f (nr.each i o.0))
      go (no f) ih = let q : Under N (length N) (suc k) (node i) = (o.0, omega arith) in wait q (ih q)

  -- every sum lies within ±D, ..
  pub from_within : (k : ℕ) (ns : List ℕ) → drop k S ≡ ns → Pos ns → (t : Target costs) → Under N (length N) k t → Within D ns (from N k t)
  from_within k ns rest p t o =
      record {
        fits =
            λ s x. subst (Fit D) (ap (λ (z : ℤ). (from N k t s).off -ℤ z) (from_zeros N k S w ns t o) ∙ minus_zero (from N k t s).off)
            ((under_spread k ns rest t o).apart s (zeros ns) x (zeros_valid ns p));
      }

  -- .. and so does every integer that a branch adds
  pub branch_fits : (k n : ℕ) (ns : List ℕ) → drop k S ≡ n ∷ ns → Pos (n ∷ ns) → (t : Target costs) → Under N (length N) k t → (v : ℕ) → v < n → Fit D (branch_at N k t v).adds
  branch_fits k n ns rest p t o v l =
      subst (Fit D)
      (offs (from_step N k t v (zeros ns))
      ∙ ap (λ (z : ℤ). (branch_at N k t v).adds +ℤ z) (from_zeros N (suc k) S w ns (branch_at N k t v).to (branch_under N k S w t v o))
      ∙ +ℤ_idr (branch_at N k t v).adds)
      ((from_within k (n ∷ ns) rest p t o).fits (v ∷ zeros ns) (l, zeros_valid ns p.1))

  pub node_fits : (i : ℕ) → i < length N → (n : ℕ) (ns : List ℕ) → drop (at N i).feature S ≡ n ∷ ns → Pos (n ∷ ns) → (v : ℕ) → v < n → Fit D (get_or (at N i).branches v blank).adds
  node_fits i h n ns rest p v l =
      subst (λ (b : Branch costs). Fit D b.adds) (branch_here N (at N i).feature i v refl) (branch_fits (at N i).feature n ns rest p (node i) (h, le_refl _) v l)
