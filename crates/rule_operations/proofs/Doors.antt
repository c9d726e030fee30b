-- THE DOOR of CASE: the place and the selector are tested first and the branches after them, as if all stood in one list. Assumes nothing.
use mathlib.Core.Path.{◌≡◌, subst}
use mathlib.Core.List.{List, [], ◌∷◌}
use Prim.Native.Nat.{ℕ, zero, suc, ◌<◌}
use native.Mathlib.Omega.{arith}
use lib.ListN.{length, get_or}
use Rattle.settings.specs.Refusals.{Ends, ◌when◌else◌, taken}
use Rattle.settings.specs.declared.refusals.Refusal.{Refusal}
use Rattle.settings.specs.declared.refusals.Refusal.TheVariants.{Damaged, BadPlace}
use Rattle.settings.specs.Refusals.{Outcome}
use Rattle.settings.specs.Refusals.{Taken, Refused}
use Rattle.settings.proofs.Endings.{not_taken}
use Rattle.promises.specs.State.{Places, front}
use Rattle.table_calls.specs.Door.{Enters}
use Rattle.table_calls.proofs.Entering.{enters, enters_nowhere}

module _ {n p q : ℕ} {l : List ℕ} where
  -- both lists are places exactly if the list of all is
  pub together : Places n (p ∷ q ∷ []) → Places n l → Places n (p ∷ q ∷ l)
  together a b = record { each = go }
    where
      go : (j : ℕ) → j < length (p ∷ q ∷ l) → get_or (p ∷ q ∷ l) j 0 < n
      go zero h = a.each 0 (omega arith)
      go (suc zero) h = a.each 1 (omega arith)
      go (suc (suc j)) h = b.each j (omega arith)

  pub foremost : Places n (p ∷ q ∷ l) → Places n (p ∷ q ∷ [])
  foremost a = record { each = go }
    where
      go : (j : ℕ) → j < length (p ∷ q ∷ []) → get_or (p ∷ q ∷ []) j 0 < n
      go zero h = a.each 0 (omega arith)
      go (suc zero) h = a.each 1 (omega arith)
      go (suc (suc j)) h = absurd (omega arith)

  pub others : Places n (p ∷ q ∷ l) → Places n l
  others a = record { each = λ j h. a.each (suc (suc j)) (omega arith) }

module _ {Sound : List ℕ → Type 0} {n p q : ℕ} {l w : List ℕ} {o : Outcome} (e : Enters Sound n (p ∷ q ∷ []) w o) where
  -- what the door refuses of the first two is refused of all
  pub turned_back : {x : Refusal} → o ≡ Refused x → Enters Sound n (p ∷ q ∷ l) w (Refused x)
  turned_back {x} k =
      record {
        ends = (f.0, λ s. (λ m. (f.1 s).0 (outside s), λ m. absurd (m (λ a. outside s (foremost a)))));
        sound = not_taken;
        there = not_taken;
      }
    where
      f : Ends (Damaged when (Sound w → ⊥) else front n (p ∷ q ∷ []) taken) (Refused x)
      f = subst (Ends (Damaged when (Sound w → ⊥) else front n (p ∷ q ∷ []) taken)) k e.ends

      outside : ((Sound w → ⊥) → ⊥) → Places n (p ∷ q ∷ []) → ⊥
      outside s a = not_taken ((f.1 s).1 (λ m. m a))

  -- past it the branches decide
  pub nowhere : o ≡ Taken → (Places n l → ⊥) → Enters Sound n (p ∷ q ∷ l) w (Refused BadPlace)
  nowhere k m = enters_nowhere (e.sound k) (λ a. m (others a))

  pub inside : o ≡ Taken → Places n l → Enters Sound n (p ∷ q ∷ l) w Taken
  inside k a = enters (e.sound k) (together (e.there k) a)
