-- The sums that the pair of a new node is made of lie within ±D, where the cost below it has spread D. Assumes nothing.
use mathlib.Core.Path.{◌≡◌, sym, ap, ap₂, subst, ◌∙◌}
use mathlib.Core.List.{List, ◌∷◌}
use Prim.Native.Nat.{ℕ, suc, ◌<◌}
use native.Mathlib.Nat.{le_refl, zero-add}
use lib.IntN.{ℤ, ◌+ℤ◌, ◌-ℤ◌}
use lib.ListN.{length, get_or, drop}
use Rattle.theory.specs.Settings.{Pos, zeros}
use Rattle.theory.specs.Functions.{held, lift, parts}
use Rattle.theory.specs.Diagrams.{Branch, Node, base, blank}
use Rattle.theory.specs.WellFormed.{Mean, Means, WellFormed}
use Rattle.theory.specs.Costs.{Cost, costs}
use Rattle.theory.proofs.Lists.{drop_head}
use Rattle.theory.proofs.Ranges.{zeros_valid}
use Rattle.theory.proofs.Values.{means_at, value_split, value_zeros}
use Rattle.theory_costs.specs.Extremes.{Passed, along}
use Rattle.theory_costs.specs.Narrow.{Spread}
use Rattle.theory_costs.proofs.Extremes.{Taken, Way, extreme_agree, extreme_lift, extreme_taken}
use Rattle.theory_costs.proofs.Passing.{passed_right}
use Rattle.theory_costs.proofs.Relative.{offs}
use Rattle.promises.specs.Integers.{Fit}
use Rattle.promises.specs.CostSound.{extreme, from}

module _ {op : ℤ → ℤ → ℤ} {R : ℤ → ℤ → Type 0} (W : Way op R) (S : List ℕ) (k n : ℕ) (ns : List ℕ) (rest : drop k S ≡ n ∷ ns) (p : Pos (n ∷ ns)) (N : List (Node costs)) (w : WellFormed S N)
    (f : ℕ → ℤ) (q : Passed op N (length N) f) (g : Cost) where
  -- a branch that means g at v: what it adds and what is kept for its target is the extreme of g there
  pub along_extreme : (b : Branch costs) (v : ℕ) → Mean N (suc k) ns b (held v g) → along f b ≡ extreme op ns (held v g)
  along_extreme b v m =
      ap (λ (z : ℤ). b.adds +ℤ z) (sym (passed_right W S N w (length N) (le_refl _) f q (suc k) ns (drop_head S k n ns rest).2 p.1 b.to m.ok))
      ∙ sym (extreme_lift W ns p.1 b.adds (from N (suc k) b.to))
      ∙ extreme_agree op ns (λ s. lift b.adds (from N (suc k) b.to s)) (held v g) (λ s x. sym (value_split N (suc k) b s) ∙ m.says s x)

  -- so with the first's added integer taken off it lies within ±D
  pub arms_near : {D : ℕ} (bs : List (Branch costs)) → Means N (suc k) ns bs (parts 0 n g) → Spread D (n ∷ ns) g → (v : ℕ) → v < n → Fit D (along f (get_or bs v blank) -ℤ base bs)
  arms_near {D} bs ms sp v h =
      let m : (u : ℕ) → u < n → Mean N (suc k) ns (get_or bs u blank) (held u g) = (λ u l. rw zero-add at (means_at N (suc k) ns bs 0 n g ms u l)) in
      let t : Taken ns (held v g) (extreme op ns (held v g)) = extreme_taken W ns p.1 (held v g) in
      let a : along f (get_or bs v blank) ≡ (g (v ∷ t.setting)).off = along_extreme (get_or bs v blank) v (m v h) ∙ t.takes in
      let b : base bs ≡ (g (0 ∷ zeros ns)).off =
      sym (value_zeros S N w (suc k) ns (get_or bs 0 blank) (m 0 p.0).ok) ∙ offs ((m 0 p.0).says (zeros ns) (zeros_valid ns p.1)) in
      subst (Fit D) (sym (ap₂ (λ (x y : ℤ). x -ℤ y) a b)) (sp.apart (v ∷ t.setting) (0 ∷ zeros ns) (h, t.valid) (p.0, zeros_valid ns p.1))
