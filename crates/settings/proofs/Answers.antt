-- What a test that answered says. Assumes nothing.
use mathlib.Core.Path.{◌≡◌, refl, sym, subst}
use mathlib.Core.Bool.{Bool, true, false, not}
use borrow.Author.Tests.{eq-eqb, ne_eqb, le-leb, lt-leb, not-true, not-false}
use native.Mathlib.Decide.{ℕ_discrete, dec_le}
use native.Mathlib.Omega.{arith}
use Prim.Native.Nat.{ℕ, ◌≤◌}
use lib.Dec.{leb, eqb}
use Rattle.std.specs.Prelude.{IsTrue, ◌↔◌}
use Rattle.settings.specs.Tells.{Tells}

pub sure : {t : Bool} {P : Type 0} → t ≡ true → Tells t P → P
sure {t} {P} e h = subst (λ (x : Bool). Tells x P) e h

pub sure_not : {t : Bool} {P : Type 0} → t ≡ false → Tells t P → P → ⊥
sure_not {t} {P} e h = subst (λ (x : Bool). Tells x P) e h

-- the same of a test that `!` turned round
pub denied : {P : Type 0} (t : Bool) → not t ≡ true → Tells t P → P → ⊥
denied t e h = sure_not (not-true t e) h

pub granted : {P : Type 0} (t : Bool) → not t ≡ false → Tells t P → P
granted t e h = sure (not-false t e) h

-- a test of a condition is a test of each that holds exactly if it does
pub retell : {P Q : Type 0} (t : Bool) → (P → Q) → (Q → P) → Tells t P → Tells t Q
retell true f g h = f h
retell false f g h = λ q. h (g q)

-- a comparison of numbers is a test of what holds exactly if it does
pub tells_leb : (a b : ℕ) {P : Type 0} → (a ≤ b → P) → (P → a ≤ b) → Tells (leb a b) P
tells_leb a b {P} f g = go (dec_le a b)
  where
    go : Dec (a ≤ b) → Tells (leb a b) P
    go (yes h) = subst (λ (x : Bool). Tells x P) (sym (le-leb a b h)) (f h)
    go (no h) = subst (λ (x : Bool). Tells x P) (sym (lt-leb a b (omega arith))) (λ p. h (g p))

pub tells_eqb : (a b : ℕ) {P : Type 0} → (a ≡ b → P) → (P → a ≡ b) → Tells (eqb a b) P
tells_eqb a b {P} f g = go (ℕ_discrete a b)
  where
    go : Dec (a ≡ b) → Tells (eqb a b) P
    go (yes h) = subst (λ (x : Bool). Tells x P) (sym (eq-eqb a b h)) (f h)
    go (no h) = subst (λ (x : Bool). Tells x P) (sym (ne_eqb a b h)) (λ p. h (g p))

-- the answer is decided
pub tells_decided : (P : Type 0) (t u : Bool) → Tells t P → Tells u P → t ≡ u
tells_decided P true true h k = refl
tells_decided P true false h k = absurd (k h)
tells_decided P false true h k = absurd (h k)
tells_decided P false false h k = refl

-- a `bool` that is true exactly if P holds is a test of what holds exactly if P does
pub tells_iff : {P Q : Type 0} (t : Bool) → IsTrue t ↔ P → (P → Q) → (Q → P) → Tells t Q
tells_iff true e f g = f (e.0 refl)
tells_iff false e f g = λ q. let z : false ≡ true = e.1 (g q) in cc
