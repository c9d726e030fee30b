-- Chains: 1 + the last index of a hash. Assumes nothing.
use mathlib.Core.Path.{◌≡◌, refl, sym, ◌∙◌}
use mathlib.Core.Logic.{⊎_elim}
use Prim.Native.Nat.{ℕ, zero, suc, ◌-◌, ◌≤◌, ◌<◌}
use native.Mathlib.Omega.{arith}
use borrow.Author.Tests.{eq-eqb, ne_eqb}
use Rattle.table_words.proofs.Tab.{split, same}
use Rattle.promises.specs.Words.{last_of}

pub last_ext : (f g : ℕ → ℕ) (h e : ℕ) → ((i : ℕ) → i < e → f i ≡ g i) → last_of f h e ≡ last_of g h e
unfolding last_of
last_ext f g h zero a = refl
last_ext f g h (suc e) a = rw (a e (omega arith), last_ext f g h e (λ i l. a i (omega arith)))

pub last_none : (f : ℕ → ℕ) (h : ℕ) → last_of f h 0 ≡ 0
unfolding last_of
last_none f h = refl

pub last_here : (f : ℕ → ℕ) (h e : ℕ) → f e ≡ h → last_of f h (suc e) ≡ suc e
unfolding last_of
last_here f h e q = rw (eq-eqb (f e) h q)

pub last_not : (f : ℕ → ℕ) (h e : ℕ) → (f e ≡ h → ⊥) → last_of f h (suc e) ≡ last_of f h e
unfolding last_of
last_not f h e q = rw (ne_eqb (f e) h q)

-- c = last_of f h e: what a walk along the chain learns
pub record Last (f : ℕ → ℕ) (h e c : ℕ) : Type 0 where
  pub within : c ≤ e
  pub hash : 0 < c → f (c - 1) ≡ h
  pub gap : (j : ℕ) → c ≤ j → j < e → f j ≡ h → ⊥

pub last_is : (f : ℕ → ℕ) (h e : ℕ) → Last f h e (last_of f h e)
unfolding last_of
last_is f h zero = record { within = omega arith; hash = λ p. absurd (omega arith); gap = λ j a b. absurd (omega arith) }
last_is f h (suc e) = ⊎_elim
    (λ q. rw (last_here f h e q) (record { within = omega arith; hash = λ p. (let d : suc e - 1 ≡ e = omega arith in rw d q); gap = λ j a b. absurd (omega arith) }))
    (λ q. rw (last_not f h e q)
    (let r = last_is f h e in
    record { within = omega (arith, r.within); hash = r.hash; gap = λ j a b x. ⊎_elim (λ l. r.gap j a l x) (λ l. q (let d : j ≡ e = omega arith in rw d at x)) (split j e) }))
    (same (f e) h)

-- what is last below e and lies below a is last below a
pub last_down : (f : ℕ → ℕ) (h a e : ℕ) → a ≤ e → last_of f h e ≤ a → last_of f h a ≡ last_of f h e
last_down f h a zero l u = let q : a ≡ 0 = omega arith in rw q refl
last_down f h a (suc e) l u = ⊎_elim
    (λ k. ⊎_elim
    (λ q. absurd (omega (arith, last_here f h e q)))
    (λ q. let n = last_not f h e q in last_down f h a e (omega arith) (omega arith) ∙ sym n)
    (same (f e) h))
    (λ k. let q : a ≡ suc e = omega arith in rw q refl)
    (split a (suc e))
