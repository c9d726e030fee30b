-- The door answers in its turn: a table that is not sound, places that are not there, or taken. Assumes nothing.
use mathlib.Core.Path.{refl, sym, subst}
use mathlib.Core.Bool.{Bool, true, false}
use mathlib.Core.List.{List}
use Prim.Native.Nat.{ℕ}
use Rattle.settings.specs.declared.refusals.Refusal.TheVariants.{Damaged, BadPlace}
use Rattle.settings.specs.Refusals.{Outcome, Taken, Refused}
use Rattle.settings.specs.Tells.{Tells}
use Rattle.settings.proofs.Endings.{stop, pass, not_taken}
use Rattle.promises.specs.State.{Places}
use Rattle.table_calls.specs.Door.{Enters, Admits}

module _ {Sound : List ℕ → Type 0} {n : ℕ} {l w : List ℕ} where
  pub enters_damaged : (Sound w → ⊥) → Enters Sound n l w (Refused Damaged)
  enters_damaged d = record { ends = stop d; sound = not_taken; there = not_taken }

  pub enters_nowhere : Sound w → (Places n l → ⊥) → Enters Sound n l w (Refused BadPlace)
  enters_nowhere s d = record { ends = pass (λ m. m s) (stop d); sound = not_taken; there = not_taken }

  pub enters : Sound w → Places n l → Enters Sound n l w Taken
  enters s p = record { ends = pass (λ m. m s) (pass (λ m. m p) refl); sound = λ e. s; there = λ e. p }

  -- as two tests tell
  pub admitted : (s p : Bool) {o : Outcome} → Tells s (Sound w) → Tells p (Places n l) → Admits s p o → Enters Sound n l w o
  admitted false p d q e = subst (Enters Sound n l w) (sym e) (enters_damaged d)
  admitted true false s d e = subst (Enters Sound n l w) (sym e) (enters_nowhere s d)
  admitted true true s p e = subst (Enters Sound n l w) (sym e) (enters s p)
