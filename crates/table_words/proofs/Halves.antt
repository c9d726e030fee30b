-- The halves of a word: an even value has the low one. The branch words of a body, in halves or whole. Assumes nothing.
use mathlib.Core.Path.{◌≡◌, ap, ap₂}
use mathlib.Core.Logic.{⊎_elim}
use Prim.Native.Nat.{ℕ, ◌/◌, ◌%◌, ◌<◌}
use native.Mathlib.Omega.{arith}
use borrow.Author.Tests.{eq-eqb, ne_eqb}
use lib.Dec.{eqb}
use Rattle.table_words.specs.Words.{way_of}
use Rattle.table_words.proofs.Tab.{same}
use Rattle.promises.specs.Words.{pick}
use Rattle.promises.specs.CostWords.{half}

pub half_even : (x v : ℕ) → v % 2 ≡ 0 → half x v ≡ x % 65536
unfolding half
half_even x v e = rw (eq-eqb (v % 2) 0 e)

pub half_odd : (x v : ℕ) → (v % 2 ≡ 0 → ⊥) → half x v ≡ x / 65536
unfolding half
half_odd x v e = rw (ne_eqb (v % 2) 0 e)

pub half_zero : (v : ℕ) → half 0 v ≡ 0
half_zero v = ⊎_elim (half_even 0 v) (half_odd 0 v) (same (v % 2) 0)

-- the same body words say the same branch words
pub way_same : (first : ℕ) (f g : ℕ → ℕ) (v : ℕ) → v < 8 → ((u : ℕ) → u < 12 → f u ≡ g u) → way_of first f v ≡ way_of first g v
way_same first f g v h e = ap₂ (λ (x y : ℕ). pick (eqb first 1) x y) (ap (λ (x : ℕ). half x v) (e (v / 2) (omega arith))) (e v (omega arith))
