-- CHOOSE IS NEVER REFUSED WITH RANGE: a choice stays where its two costs are. Assumes nothing.
use mathlib.Core.Path.{◌≡◌, refl}
use mathlib.Core.Logic.{inl, inr, ⊎_elim}
use Prim.Native.Nat.{ℕ, zero, suc}
use native.Mathlib.Omega.{arith}
use lib.IntN.{ℤ}
use Rattle.settings.specs.declared.refusals.Refusal.TheVariants.{Damaged, BadPlace, Range}
use Rattle.settings.specs.Refusals.{Outcome}
use Rattle.settings.specs.Refusals.{Refused}
use Rattle.promises.specs.Words.{sizes}
use Rattle.promises.specs.Integers.{Fit}
use Rattle.promises.specs.CostOperations.{chosen_of, chosen}
use Rattle.promises.specs.Range.{LeavesRange, cost_most}
use Rattle.promises.specs.State.{on}
use Rattle.promises.specs.Deed.{refusals, Meets}
use Rattle.promises.specs.BothDeeds.{both, choose}
use Rattle.cost_calls.proofs.Edge.{drawn}
use Rattle.demands.specs.BothCalls.{choose_call}
use Rattle.demands.proofs.Rows.{applies_row}
use Rattle.demands.proofs.Demands.{refused_exactly}
use Rattle.demands.proofs.Parts.{both_kept}

-- one of two integers
one_of : (P : ℤ → Type 0) (n : ℕ) (x y : ℤ) → P x → P y → P (chosen_of n x y)
one_of P zero x y p q = q
one_of P (suc n) x y p q = p

pub never_range : (p q a b : ℕ) (w w' : both.Words) (o : Outcome) → Meets (choose p q a b) w w' o → o ≡ Refused Range → ⊥
never_range p q a b w w' o m e =
    let x = ((refused_exactly both_kept (choose_call p q a b) w w' o m).refused Range).0 e in
    let l : LeavesRange (sizes w.1) (chosen (on (both.says w).0 q) (on (both.says w).1 a) (on (both.says w).1 b)) =
    ⊎_elim (λ y. y) (λ y. absurd y) (applies_row (refusals (choose p q a b) w) Range x.0) in
    x.1 BadPlace (omega arith) (inr (inl (
      refl,
      λ k.
          x.1 Damaged (omega arith) (inl (
            refl,
            λ s.
                let r = (drawn.proper w.1 s.1).range in
                l.out (one_of (Fit cost_most) (on (both.says w).0 q l.setting).end (on (both.says w).1 a l.setting).off (on (both.says w).1 b l.setting).off
                (r a (k.1.each 1 (omega arith)) l.setting l.valid) (r b (k.1.each 2 (omega arith)) l.setting l.valid)),
          )),
    )))
