-- How a call is shown to meet its deed: refused at the door or after it, or taken. Assumes nothing.
use mathlib.Core.Path.{◌≡◌, sym, subst, ◌∙◌}
use mathlib.Core.List.{List, []}
use Prim.Native.Nat.{ℕ}
use native.Mathlib.Nat.{not-suc-le-zero}
use Rattle.settings.specs.Refusals.{Ends, ◌when◌else◌, taken}
use Rattle.settings.specs.declared.refusals.Refusal.{Refusal}
use Rattle.settings.specs.declared.refusals.Refusal.TheVariants.{Damaged, BadPlace}
use Rattle.settings.specs.Refusals.{Outcome}
use Rattle.settings.specs.Refusals.{Taken, Refused}
use Rattle.settings.proofs.Endings.{not_taken, not_refused}
use Rattle.promises.specs.Loan.{Loan}
use Rattle.promises.specs.Deed.{Deed, refusals, Meets}
use Rattle.promises.specs.State.{Places, front}
use Rattle.table_calls.specs.Door.{Enters}

-- ---- THE DOOR, stated on what `Ends` computes to: R is what the refusals after the door compute to
module _ {Sound : List ℕ → Type 0} {n : ℕ} {l w : List ℕ} {o : Outcome} (e : Enters Sound n l w o) where
  -- what the door refuses is refused, whatever comes after it
  pub turned_away : {x : Refusal} {R : Type 0} → o ≡ Refused x →
      ((Sound w → ⊥) → Refused x ≡ Refused Damaged) × (((Sound w → ⊥) → ⊥) → ((Places n l → ⊥) → Refused x ≡ Refused BadPlace) × (((Places n l → ⊥) → ⊥) → R))
  turned_away k = let f = subst (Ends (Damaged when (Sound w → ⊥) else front n l taken)) k e.ends in (f.0, λ s. ((f.1 s).0, λ m. not_taken ((f.1 s).1 m)))

  -- past the door the rest decides
  pub let_in : {q : Outcome} {R : Type 0} → o ≡ Taken → R → ((Sound w → ⊥) → q ≡ Refused Damaged) × (((Sound w → ⊥) → ⊥) → ((Places n l → ⊥) → q ≡ Refused BadPlace) × (((Places n l → ⊥) → ⊥) → R))
  let_in k r = (λ p. absurd (p (e.sound k)), λ s. (λ p. absurd (p (e.there k)), λ m. r))

-- a call that touches no place
module _ {Sound : List ℕ → Type 0} {n : ℕ} {w : List ℕ} {o : Outcome} (e : Enters Sound n [] w o) where
  pub damaged_only : {x : Refusal} → o ≡ Refused x → Ends (Damaged when (Sound w → ⊥) else taken) (Refused x)
  damaged_only k = let f = subst (Ends (Damaged when (Sound w → ⊥) else front n [] taken)) k e.ends in (f.0, λ s. (f.1 s).1 (λ m. m (record { each = λ j h. absurd (not-suc-le-zero h) })))

module _ {L : Loan} {d : Deed L} where
  -- a refused call: every word is as it was
  pub refuses : {w : L.Words} {r : d.Result} {x : Refusal} → d.ending r ≡ Refused x → r ≡ d.refusal x → Ends (refusals d w) (Refused x) → Meets d w w r
  refuses {w} {r} {x} e i t =
      record {
        ends = subst (Ends (refusals d w)) (sym e) t;
        leaves = λ k. not_taken (sym e ∙ k);
        gives = λ k. not_taken (sym e ∙ k);
        kept = λ y k j. w;
        refused = λ y k. i ∙ (λ j. d.refusal (same (sym e ∙ k) j));
      }
    where
      same : {y z : Refusal} → ◌≡◌ {A = Outcome} (Refused y) (Refused z) → y ≡ z
      same q = cc

  -- a taken call
  pub takes : {w w' : L.Words} {r : d.Result} → d.ending r ≡ Taken → Ends (refusals d w) Taken → L.Leaves (d.writes (L.says w)) w w' → d.Gives (L.says w) r → Meets d w w' r
  takes {w} {w'} {r} e t l g =
      record {
        ends = subst (Ends (refusals d w)) (sym e) t;
        leaves = λ k. l;
        gives = λ k. g;
        kept = λ y k. not_refused (sym e ∙ k);
        refused = λ y k. not_refused (sym e ∙ k);
      }
