-- A node's lowest (highest) sum follows from its branches and what is kept for earlier nodes. Assumes nothing.
use mathlib.Core.Path.{◌≡◌, sym, ap, ◌∙◌, subst}
use mathlib.Core.List.{List, ◌∷◌}
use Prim.Native.Nat.{ℕ, zero, suc, ◌≤◌, ◌<◌}
use native.Mathlib.Nat.{not-suc-le-zero, le_refl}
use native.Mathlib.Decide.{dec_lt}
use native.Mathlib.Omega.{arith}
use lib.IntN.{ℤ, ◌+ℤ◌}
use lib.ListN.{length, get_or, drop}
use lib.Seq.{drop-cons}
use Rattle.theory.specs.Settings.{Pos}
use Rattle.theory.specs.Diagrams.{Branch, Node, at, blank, node}
use Rattle.theory.specs.WellFormed.{WellFormed}
use Rattle.theory.specs.Costs.{costs}
use Rattle.theory.proofs.Lists.{pos_drop}
use Rattle.theory_costs.specs.Extremes.{Passed, along, own}
use Rattle.theory_costs.specs.Narrow.{Narrow}
use Rattle.theory_costs.proofs.Extremes.{Way, across_ext}
use Rattle.theory_costs.proofs.Walks.{walk_extreme}
use Rattle.theory_costs.proofs.Relative.{branch_here, single}
use Rattle.theory_costs.proofs.Passing.{passed_right, kept_fits}
use Rattle.promises.specs.Integers.{Fit}
use Rattle.promises.specs.CostSound.{across, extreme, from, sum_below}

module _ {op : ℤ → ℤ → ℤ} {R : ℤ → ℤ → Type 0} (W : Way op R) (S : List ℕ) (p : Pos S) (N : List (Node costs)) (w : WellFormed S N) (f : ℕ → ℤ) where
  -- the features that are left below node i, its own first
  left : (i : ℕ) → i < length N → drop (at N i).feature S ≡ get_or S (at N i).feature 0 ∷ drop (suc (at N i).feature) S
  left i h = drop-cons S (at N i).feature 0 (w.fits i h).known

  -- A NODE'S SUM from its branches and what is kept for earlier nodes
  pub own_right : (i : ℕ) → i < length N → Passed op N i f → sum_below op S N i ≡ own op f (at N i)
  unfolding own sum_below
  own_right i h q =
      let k : ℕ = (at N i).feature in
      let n : ℕ = get_or S k 0 in
      let ns : List ℕ = drop (suc k) S in
      ap (λ (ms : List ℕ). extreme op ms (from N k (node i))) (left i h)
      ∙ walk_extreme (single N) W k n ns (pos_drop (suc k) S p) (node i)
      ∙ across_ext op _ (λ v. along f (get_or (at N i).branches v blank)) n
      (λ v y. let b : Branch costs = get_or (at N i).branches v blank in
      ap (λ (c : Branch costs). c.adds +ℤ extreme op ns (from N (suc k) c.to)) (branch_here N k i v (λ j. k))
      ∙ ap (λ (z : ℤ). b.adds +ℤ z) (passed_right W S N w i (omega arith) f q (suc k) ns (λ j. ns) (pos_drop (suc k) S p) b.to ((w.fits i h).lower v)))
      ∙ ap (across op (λ v. along f (get_or (at N i).branches v blank))) (sym (w.fits i h).full)

  -- what satisfies the local condition is right, ..
  pub passed_sum : (m : ℕ) → m ≤ length N → Passed op N m f → (i : ℕ) → i < m → f i ≡ sum_below op S N i
  unfolding sum_below
  passed_sum m u q i h =
      sym (passed_right W S N w m u f q (at N i).feature (drop (at N i).feature S) (λ j. drop (at N i).feature S) (pos_drop (at N i).feature S p) (node i) (h, le_refl _))

  -- .. and what is right satisfies it
  pub sum_passed : (m : ℕ) → m ≤ length N → ((i : ℕ) → i < m → f i ≡ sum_below op S N i) → Passed op N m f
  sum_passed zero u e = record { each = λ i h. absurd (not-suc-le-zero h) }
  sum_passed (suc m) u e = more (sum_passed m (omega arith) (λ i h. e i (omega arith)))
    where
      more : Passed op N m f → Passed op N (suc m) f
      more q = record { each = λ i h. go i h (dec_lt i m) }
        where
          go : (i : ℕ) → i < suc m → Dec (i < m) → f i ≡ own op f (at N i)
          go i h (yes l) = q.each i l
          go i h (no l) =
              let c : i ≡ m = omega arith in
              subst (λ (j : ℕ). f j ≡ own op f (at N j)) (sym c) (e m (omega arith) ∙ own_right m (omega arith) q)

  -- of a narrow list it fits
  pub sum_fits : {D : ℕ} → Narrow D S N → Passed op N (length N) f → (i : ℕ) → i < length N → Fit D (f i)
  sum_fits nr q i h =
      kept_fits W S N w (length N) (le_refl _) f q nr (at N i).feature (drop (at N i).feature S) (λ j. drop (at N i).feature S) (pos_drop (at N i).feature S p) (node i) (h, le_refl _)
