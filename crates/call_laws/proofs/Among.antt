-- THE PLACES OF A LIST: by their number, and told from those of another list. Assumes nothing.
use mathlib.Core.Path.{◌≡◌, refl, sym, subst}
use mathlib.Core.List.{List, ◌∷◌}
use Prim.Native.Nat.{ℕ}
use Rattle.call_laws.specs.Standing.{Among, first, later, Apart}

pub other : {l k : List ℕ} {p r : ℕ} → Apart l k → Among r k → Among p l → r ≡ p → ⊥
other {l} {r = r} d m n e = d.apart r (subst (λ (x : ℕ). Among x l) (sym e) n) m

pub at0 : {p : ℕ} {l : List ℕ} → Among p (p ∷ l)
at0 = first refl

pub at1 : {o p : ℕ} {l : List ℕ} → Among p (o ∷ p ∷ l)
at1 = later at0

pub at2 : {n o p : ℕ} {l : List ℕ} → Among p (n ∷ o ∷ p ∷ l)
at2 = later at1

pub at3 : {m n o p : ℕ} {l : List ℕ} → Among p (m ∷ n ∷ o ∷ p ∷ l)
at3 = later at2

pub at4 : {k m n o p : ℕ} {l : List ℕ} → Among p (k ∷ m ∷ n ∷ o ∷ p ∷ l)
at4 = later at3

pub at5 : {j k m n o p : ℕ} {l : List ℕ} → Among p (j ∷ k ∷ m ∷ n ∷ o ∷ p ∷ l)
at5 = later at4

pub at6 : {i j k m n o p : ℕ} {l : List ℕ} → Among p (i ∷ j ∷ k ∷ m ∷ n ∷ o ∷ p ∷ l)
at6 = later at5

pub at7 : {h i j k m n o p : ℕ} {l : List ℕ} → Among p (h ∷ i ∷ j ∷ k ∷ m ∷ n ∷ o ∷ p ∷ l)
at7 = later at6
