-- Where copies are and what marks say: of a node that stays and of another, and in words that are the same there. Assumes nothing.
use mathlib.Core.Path.{◌≡◌, refl, sym, ap, ◌∙◌}
use mathlib.Core.Logic.{⊎_elim}
use mathlib.Core.List.{List}
use Prim.Native.Nat.{ℕ, zero, suc, ◌+◌, ◌-◌, ◌≤◌, ◌<◌}
use native.Mathlib.Omega.{arith}
use borrow.Author.Tests.{lt-ltb, le-ltb}
use Rattle.table_words.proofs.Tab.{split}
use Rattle.table_sweep.specs.Marks.{kept, spot, mark, higher, highest}
use Rattle.promises.specs.Words.{head, capacity, count, link}

pub spot_kept : (w : List ℕ) (i : ℕ) → i < kept w → spot w i ≡ i
unfolding spot
spot_kept w i h = rw (lt-ltb i (kept w) h)

pub spot_far : (w : List ℕ) (i : ℕ) → kept w ≤ i → spot w i ≡ capacity w + i
unfolding spot
spot_far w i h = rw (le-ltb i (kept w) h)

pub mark_kept : (w : List ℕ) (i : ℕ) → i < kept w → mark w i ≡ suc i
unfolding mark
mark_kept w i h = rw (lt-ltb i (kept w) h)

pub mark_link : (w : List ℕ) (i : ℕ) → kept w ≤ i → mark w i ≡ link w i
unfolding mark
mark_link w i h = rw (le-ltb i (kept w) h)

-- a node without a copy does not stay
pub mark_none : (w : List ℕ) (i : ℕ) → mark w i ≡ 0 → kept w ≤ i
mark_none w i z = ⊎_elim (λ h. absurd (omega (arith, mark_kept w i h))) (λ h. h) (split i (kept w))

pub spot_same : (w w' : List ℕ) → kept w' ≡ kept w → capacity w' ≡ capacity w → (i : ℕ) → spot w' i ≡ spot w i
spot_same w w' k c i = ⊎_elim
    (λ h. spot_kept w' i (omega arith) ∙ sym (spot_kept w i h))
    (λ h. spot_far w' i (omega arith) ∙ ap (λ (n : ℕ). n + i) c ∙ sym (spot_far w i h))
    (split i (kept w))

pub mark_same : (w w' : List ℕ) → kept w' ≡ kept w → (i : ℕ) → (kept w ≤ i → link w' i ≡ link w i) → mark w' i ≡ mark w i
mark_same w w' k i l = ⊎_elim
    (λ h. mark_kept w' i (omega arith) ∙ sym (mark_kept w i h))
    (λ h. mark_link w' i (omega arith) ∙ l h ∙ sym (mark_link w i h))
    (split i (kept w))

-- ---- the highest root
pub higher_up : (a c : ℕ) → a < c → higher a c ≡ c
unfolding higher
higher_up a c h = rw (lt-ltb a c h)

pub higher_stay : (a c : ℕ) → c ≤ a → higher a c ≡ a
unfolding higher
higher_stay a c h = rw (le-ltb a c h)

pub highest_none : (first : ℕ) (w : List ℕ) → highest first w 0 ≡ 0
unfolding highest
highest_none first w = refl

pub highest_more : (first : ℕ) (w : List ℕ) (p : ℕ) → highest first w (suc p) ≡ higher (highest first w p) (suc (head w (32 + p)) - first)
unfolding highest
highest_more first w p = refl

-- it is a node's, where all roots are
pub highest_small : (first : ℕ) (w : List ℕ) (p : ℕ) → ((q : ℕ) → q < p → head w (32 + q) < first + count w) → highest first w p ≤ count w
highest_small first w zero h = omega (arith, highest_none first w)
highest_small first w (suc p) h =
    let i = highest_small first w p (λ q l. h q (omega arith)) in
    let e = highest_more first w p in
    ⊎_elim
    (λ l. omega (arith, higher_up (highest first w p) (suc (head w (32 + p)) - first) l, h p (omega arith)))
    (λ l. omega (arith, higher_stay (highest first w p) (suc (head w (32 + p)) - first) l))
    (split (highest first w p) (suc (head w (32 + p)) - first))

-- one place more, whose root is word b
module _ (first : ℕ) (w : List ℕ) (p : ℕ) {a b : ℕ} (ea : a ≡ highest first w p) (eb : b ≡ head w (32 + p)) where
  pub highest_up : first + a ≤ b → b - first + 1 ≡ highest first w (suc p)
  highest_up h = (let q : b - first + 1 ≡ suc (head w (32 + p)) - first = omega arith in q)
      ∙ sym (highest_more first w p ∙ higher_up (highest first w p) (suc (head w (32 + p)) - first) (omega arith))

  pub highest_stay : b < first + a → a ≡ highest first w (suc p)
  highest_stay h = ea ∙ sym (highest_more first w p ∙ higher_stay (highest first w p) (suc (head w (32 + p)) - first) (omega arith))
