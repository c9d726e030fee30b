-- The window of a walk: how it is set at rest, and that nothing is left of it. Assumes nothing.
use mathlib.Core.Path.{◌≡◌, refl, sym, ap, subst, ◌∙◌}
use mathlib.Core.Logic.{⊎_elim}
use mathlib.Core.List.{List, ◌++◌}
use Prim.Native.Nat.{ℕ, ◌+◌, ◌*◌, ◌-◌, ◌≤◌, ◌<◌}
use native.Mathlib.Omega.{arith}
use lib.ListN.{length, get_or, set, take, drop, length-set, length-drop}
use lib.Seq.{length-take-le, take_at, get_or-take, get_or-set_same, get_or-set_other}
use Rattle.table_words.proofs.Tab.{split}
use Rattle.table_notes.specs.Plain.{Roomy, Resting, Cleared, plain}
use Rattle.table_notes.specs.Far.{far, window, Windowed, Begun}
use Rattle.table_notes.proofs.Plain.{plain_of, set_capacity, plain_set}
use Rattle.table_notes.proofs.Far.{memory_far, memory_scratch, at_far, at_window, length_far, back_cleared}
use Rattle.promises.specs.Words.{capacity}

-- ---- at rest
rest_far : (w : List ℕ) → Resting w → (j : ℕ) → j < 16 * capacity w → get_or (far w) j 0 ≡ 0
rest_far w r j h = at_far w j h ∙ r.empty.zeros (8192 + 16 * capacity w + j) (omega arith) (omega arith)

rest_window : (w : List ℕ) → Resting w → window w ≡ 0
unfolding window
rest_window w r = rest_far w r (16 * capacity w - 1) (omega (arith, r.some))

-- the scratch remembers
pub begun_scratch : (w : List ℕ) (lent n : ℕ) → Resting w → n ≤ lent → Begun w w lent n
begun_scratch w lent n r h =
    let e = rest_window w r in
    record {
      fits = h;
      same = refl;
      windowed = record { roomy = r.roomy; some = r.some; short = omega (arith, e, r.some); empty = λ j a b. rest_far w r j (omega arith) };
      none = λ s z. subst Cleared (sym (memory_scratch w s (omega (arith, e)))) z;
    }

-- ---- the last word of the far records is set
module _ (w : List ℕ) (m : ℕ) (r : Roomy w) (some : 1 ≤ capacity w) where
  abbrev told : List ℕ
  told = set w (8192 + 32 * capacity w - 1) m

  cap : capacity told ≡ capacity w
  cap = set_capacity w (8192 + 32 * capacity w - 1) m (omega arith) (omega arith)

  roomy : Roomy told
  roomy = record { room = omega (arith, cap, r.room, length-set w (8192 + 32 * capacity w - 1) m); most = omega (arith, cap, r.most) }

  told_plain : plain told ≡ plain w
  told_plain = plain_set w (8192 + 32 * capacity w - 1) m (omega arith) (omega arith)

  told_last : get_or (far told) (16 * capacity w - 1) 0 ≡ m
  told_last =
      let e : 8192 + 16 * capacity w + (16 * capacity w - 1) ≡ 8192 + 32 * capacity w - 1 = omega arith in
      at_far told (16 * capacity w - 1) (omega (arith, cap))
      ∙ ap (λ (c : ℕ). get_or told (8192 + 16 * c + (16 * capacity w - 1)) 0) cap
      ∙ ap (λ (x : ℕ). get_or told x 0) e
      ∙ get_or-set_same w (8192 + 32 * capacity w - 1) m 0 (omega (arith, r.room))

  told_window : window told ≡ m
  unfolding window
  told_window = ap (λ (c : ℕ). get_or (far told) (16 * c - 1) 0) cap ∙ told_last

  told_far : (j : ℕ) → j + 1 < 16 * capacity w → get_or (far told) j 0 ≡ get_or (far w) j 0
  told_far j h =
      at_far told j (omega (arith, cap))
      ∙ ap (λ (c : ℕ). get_or told (8192 + 16 * c + j) 0) cap
      ∙ get_or-set_other w (8192 + 32 * capacity w - 1) (8192 + 16 * capacity w + j) m 0 (omega arith)
      ∙ sym (at_far w j (omega arith))

  -- the far records remember, so many of their words
  pub begun_far : (lent : ℕ) → Resting w → 0 < m → m < 16 * capacity w → Begun w told lent 0
  begun_far lent d h g =
      let zeros : (j : ℕ) → j + 1 < 16 * capacity w → get_or (far told) j 0 ≡ 0 = λ j l. told_far j l ∙ rest_far w d j (omega arith) in
      let n : length (take (window told) (far told)) ≡ window told = length-take-le (window told) (far told) (omega (arith, length_far told roomy, told_window, cap)) in
      record {
        fits = omega arith;
        same = told_plain;
        windowed = record {
          roomy = roomy;
          some = omega (arith, cap);
          short = omega (arith, cap, told_window);
          empty = λ j a b. zeros j (omega (arith, cap));
        };
        none = λ s z. subst Cleared (sym (memory_far told s (omega (arith, told_window)))) (record {
          zero = λ j l. get_or-take (window told) (far told) j 0 (omega (arith, n)) ∙ zeros j (omega (arith, n, told_window));
        });
      }

-- ---- nothing is left
-- where the scratch remembered
pub window_none : (w : List ℕ) → Windowed w → window w ≡ 0 → w ≡ plain w
window_none w d e = sym (plain_of w (record {
  zeros = λ j a b. ⊎_elim
      (λ l.
      let f : j ≡ 8192 + 16 * capacity w + (j - (8192 + 16 * capacity w)) = omega arith in
      subst (λ (x : ℕ). get_or w x 0 ≡ 0) (sym f)
      (sym (at_far w (j - (8192 + 16 * capacity w)) (omega arith)) ∙ d.empty (j - (8192 + 16 * capacity w)) (omega (arith, e)) (omega arith)))
      (λ l.
      let f : j ≡ 8192 + 32 * capacity w - 1 = omega arith in
      subst (λ (x : ℕ). get_or w x 0 ≡ 0) (sym f) (sym (at_window w d.some) ∙ e))
      (split (j + 1) (8192 + 32 * capacity w));
}))

-- where the far records did: the word that says how many is 0, and so is the part that was lent
module _ (w : List ℕ) (d : Windowed w) where
  abbrev untold : List ℕ
  untold = set w (8192 + 32 * capacity w - 1) 0

  past : (j : ℕ) → window w ≤ j → j < 16 * capacity w → get_or (far untold) j 0 ≡ 0
  past j p q = ⊎_elim
      (λ b. told_far w 0 d.roomy d.some j b ∙ d.empty j p b)
      (λ b.
      let i : j ≡ 16 * capacity w - 1 = omega arith in
      ap (λ (x : ℕ). get_or (far untold) x 0) i ∙ told_last w 0 d.roomy d.some)
      (split (j + 1) (16 * capacity w))

  untold_cleared : (ys : List ℕ) (k : ℕ) → k ≡ window w → length ys ≡ length (take k (drop (8192 + 16 * capacity w) untold)) → Cleared ys
      → take (8192 + 16 * capacity w) untold ++ (ys ++ drop k (drop (8192 + 16 * capacity w) untold)) ≡ plain w
  untold_cleared ys k e l z =
      let c = cap w 0 d.roomy d.some in
      let r = roomy w 0 d.roomy d.some in
      let n : length ys ≡ k =
      l ∙ length-take-le k (drop (8192 + 16 * capacity w) untold) (omega (arith, d.short, r.room, c, length-drop (8192 + 16 * capacity w) untold)) in
      let g : 8192 + 16 * capacity untold ≡ 8192 + 16 * capacity w = omega (arith, c) in
      subst (λ (x : ℕ). take x untold ++ (ys ++ drop k (drop x untold)) ≡ plain untold) g
      (back_cleared untold ys k r (omega (arith, d.short, c)) n z (λ j p q. past j (omega arith) (omega (arith, c))))
      ∙ told_plain w 0 d.roomy d.some

  pub cleared_window : (u ys : List ℕ) (from k : ℕ) → u ≡ untold → from ≡ 8192 + 16 * capacity w → k ≡ window w → length ys ≡ length (take k (drop from u)) → Cleared ys
      → take from u ++ (ys ++ drop k (drop from u)) ≡ plain w
  cleared_window u ys from k f a e l z = rw (f, a) (untold_cleared ys k e (rw (← f, ← a) l) z)

-- all far records
pub cleared_far : (w ys : List ℕ) (n from k : ℕ) → Roomy w → n ≡ 16 * capacity w → from ≡ 8192 + n → k ≡ n → length ys ≡ length (take k (drop from w)) → Cleared ys
    → take from w ++ (ys ++ drop k (drop from w)) ≡ plain w
cleared_far w ys n from k r a b c l z =
    let f : from ≡ 8192 + 16 * capacity w = omega arith in
    let g : length ys ≡ k = l ∙ length-take-le k (drop from w) (omega (arith, r.room, length-drop from w)) in
    rw f (back_cleared w ys k r (omega arith) g z (λ j p q. absurd (omega arith)))

-- ---- the words of the scratch that are lent, which were made 0
pub lent_cleared : (s ys : List ℕ) (k : ℕ) → k ≤ length s → length ys ≡ length (take k s) → Cleared ys → Cleared (take k (ys ++ drop k s))
lent_cleared s ys k h l z = subst Cleared (sym (take_at ys (drop k s) k (l ∙ length-take-le k s h))) z
