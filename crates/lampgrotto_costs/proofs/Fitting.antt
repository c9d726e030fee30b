-- What a call that reads a cost answers lies within the range of costs. Assumes nothing.
use mathlib.Core.Path.{◌≡◌, refl, sym, ap, subst, ◌∙◌}
use mathlib.Core.List.{List}
use Prim.Native.Nat.{ℕ, ◌<◌}
use native.Mathlib.Omega.{arith}
use lib.IntN.{ℤ}
use mir.Syntax.{w64}
use mir.Val.{to_z, of_z}
use Rattle.theory.specs.Costs.{costs, Cost}
use Rattle.theory.specs.Functions.{Amount}
use Rattle.theory.specs.Settings.{Valid}
use Rattle.std.specs.Prelude.{Ok}
use Rattle.settings.specs.Refusals.{Ends, Taken}
use Rattle.theory_costs.proofs.Integers.{fit_decided}
use Rattle.cost_words.proofs.Reading.{at_costs}
use Rattle.cost_amounts.proofs.Signed.{amount_back}
use Rattle.table_calls.proofs.Like.{clear, rest}
use Rattle.promises.specs.declared.CostLooked.{CostLooked}
use Rattle.promises.specs.declared.Found.{Found}
use Rattle.promises.specs.Integers.{Fit}
use Rattle.promises.specs.Range.{cost_most}
use Rattle.promises.specs.Words.{sizes}
use Rattle.promises.specs.CostSound.{CostSound}
use Rattle.promises.specs.State.{on}
use Rattle.promises.specs.Deed.{refusals, Meets}
use Rattle.promises.specs.Table.{state_of}
use Rattle.promises.specs.TableDeeds.{look_up}
use Rattle.promises.specs.CostDeeds.{costed}
use Rattle.promises.specs.BothDeeds.{lowest}

-- what a place of a sound table gives a setting; a range can be decided, so that it may stand under two denials
pub cost_fits : (p : ℕ) (s w : List ℕ) (z : ℤ) → ((CostSound w → ⊥) → ⊥) → ((p < 16 → ⊥) → ⊥) → ((Valid (sizes w) s → ⊥) → ⊥) → z ≡ (on (state_of costed w) p s).off → Fit cost_most z
cost_fits p s w z sound place valid e = go (fit_decided cost_most z)
  where
    go : Dec (Fit cost_most z) → Fit cost_most z
    go (yes f) = f
    go (no n) =
        absurd (sound (λ ok. place (λ h. valid (λ v. n (subst (Fit cost_most) (sym (e ∙ ap (λ (c : Cost). (c s).off) (at_costs w p h))) ((ok.ranged.ranged p h).fits s v))))))

-- a look up that is taken answers a cost
pub looked_fits : (p : ℕ) (s w : List ℕ) (v : CostLooked) → Meets (look_up costed p s) w w (Ok v) → Fit cost_most v.cost
looked_fits p s w v a =
    let l : Ends (refusals (look_up costed p s) w) Taken = a.ends in
    cost_fits p s w v.cost (clear l) (λ n. clear (rest l) (λ k. n (k.each 0 (omega arith)))) (clear (rest (rest l)))
    (ap (λ (x : Amount costs). x.off) (a.gives refl).0)

-- lowest that is taken answers a cost
pub found_fits : (p q : ℕ) (v w : List ℕ) (r : Found) → Meets (lowest p q) (v, w) (v, w) (Ok r) → Fit cost_most r.cost
found_fits p q v w r a =
    let l : Ends (refusals (lowest p q) (v, w)) Taken = a.ends in
    let g = a.gives refl in
    cost_fits p g.0 w r.cost (λ n. clear l (λ s. n s.1)) (λ n. clear (rest l) (λ k. n (k.1.each 0 (omega arith)))) (λ n. n g.2.valid) (sym g.2.gives)

-- and keeps it in 64 bits
pub fits_back : {z : ℤ} → Fit cost_most z → Fit cost_most (to_z w64 (of_z w64 z))
fits_back {z} f = subst (Fit cost_most) (sym (amount_back z f)) f
