-- Where a walk remembers: in a window of the far records, lent as a part of the table, or in the scratch. Assumes nothing.
use mathlib.Core.Path.{◌≡◌, sym, ap, subst, ◌∙◌}
use mathlib.Core.Logic.{⊎_elim}
use mathlib.Core.List.{List, ◌++◌}
use Prim.Native.Nat.{ℕ, ◌+◌, ◌*◌, ◌-◌, ◌≤◌, ◌<◌}
use native.Mathlib.Omega.{arith}
use borrow.Author.Tests.{lt-ltb, le-ltb}
use lib.ListN.{length, get_or, take, drop, length-drop, length-append, get_or-append}
use lib.Seq.{length-take-le, take-take, get_or-take, get_or-drop, get_or-append-add, ext_get_or}
use Rattle.table_words.specs.Words.{Kept}
use Rattle.table_words.proofs.Tab.{split}
use Rattle.table_notes.specs.Plain.{Roomy, Cleared, plain}
use Rattle.table_notes.specs.Far.{far, window, memory, Aside, Windowed}
use Rattle.table_notes.proofs.Plain.{plain_is, plain_of}
use Rattle.table_notes.proofs.Alike.{grown_roomy}
use Rattle.promises.specs.Words.{head, capacity}

-- ---- which words remember
pub memory_far : (w s : List ℕ) → 0 < window w → memory w s ≡ take (window w) (far w)
memory_far w s h = rw (lt-ltb 0 (window w) h)

pub memory_scratch : (w s : List ℕ) → window w ≤ 0 → memory w s ≡ s
memory_scratch w s h = rw (le-ltb 0 (window w) h)

-- a table that remembers the same
aside_window : (w w' : List ℕ) → Aside w w' → window w' ≡ window w
unfolding window
aside_window w w' a = ap (λ (x : List ℕ). get_or x (16 * capacity w' - 1) 0) a.words ∙ ap (λ (c : ℕ). get_or (far w) (16 * c - 1) 0) a.room

pub aside_memory : (w w' s : List ℕ) → Aside w w' → memory w' s ≡ memory w s
aside_memory w w' s a = let e = aside_window w w' a in ⊎_elim
    (λ h. memory_far w' s (omega (arith, e)) ∙ ap (λ (x : ℕ). take x (far w')) e ∙ ap (take (window w)) a.words ∙ sym (memory_far w s h))
    (λ h. memory_scratch w' s (omega (arith, e)) ∙ sym (memory_scratch w s h))
    (split 0 (window w))

-- nodes that are added leave the window
pub grown_windowed : (w w' : List ℕ) → Kept (plain w) (plain w') → Aside w w' → Windowed w → Windowed w'
grown_windowed w w' k a d =
    let e = aside_window w w' a in
    record {
      roomy = grown_roomy w w' k d.roomy;
      some = omega (arith, a.room, d.some);
      short = omega (arith, a.room, e, d.short);
      empty = λ j h g. ap (λ (x : List ℕ). get_or x j 0) a.words ∙ d.empty j (omega (arith, e)) (omega (arith, a.room));
    }

-- ---- the far records as a part
pub length_far : (w : List ℕ) → Roomy w → length (far w) ≡ 16 * capacity w
unfolding far
length_far w r = length-take-le (16 * capacity w) (drop (8192 + 16 * capacity w) w) (omega (arith, r.room, length-drop (8192 + 16 * capacity w) w))

pub at_far : (w : List ℕ) (j : ℕ) → j < 16 * capacity w → get_or (far w) j 0 ≡ get_or w (8192 + 16 * capacity w + j) 0
unfolding far
at_far w j h = get_or-take (16 * capacity w) (drop (8192 + 16 * capacity w) w) j 0 h ∙ get_or-drop (8192 + 16 * capacity w) w j 0

-- the last of them says the window
pub at_window : (w : List ℕ) → 1 ≤ capacity w → window w ≡ get_or w (8192 + 32 * capacity w - 1) 0
unfolding window
at_window w h =
    let e : 8192 + 16 * capacity w + (16 * capacity w - 1) ≡ 8192 + 32 * capacity w - 1 = omega arith in
    at_far w (16 * capacity w - 1) (omega arith) ∙ ap (λ (x : ℕ). get_or w x 0) e

-- so many of them
pub far_part : (w : List ℕ) (m from : ℕ) → from ≡ 8192 + 16 * capacity w → m ≤ 16 * capacity w → take m (drop from w) ≡ take m (far w)
unfolding far
far_part w m from e h = rw e (sym (take-take m (16 * capacity w) (drop (8192 + 16 * capacity w) w) h))

-- nodes that are added leave them
pub kept_aside : (w w' : List ℕ) → Roomy w → Kept w w' → Aside w w'
kept_aside w w' r k =
    let c : capacity w' ≡ capacity w = k.header 1 (omega arith) (omega arith) in
    let r' : Roomy w' = record { room = omega (arith, c, k.long, r.room); most = omega (arith, c, r.most) } in
    record {
      room = c;
      words = ext_get_or 0 (far w') (far w) (length_far w' r' ∙ ap (λ (x : ℕ). 16 * x) c ∙ sym (length_far w r))
          (λ j h.
          let l : j < 16 * capacity w = omega (arith, length_far w' r', c) in
          at_far w' j (omega (arith, c)) ∙ ap (λ (x : ℕ). get_or w' (8192 + 16 * x + j) 0) c ∙ k.past (8192 + 16 * capacity w + j) (omega arith) ∙ sym (at_far w j l));
    }

-- ---- the part is back: ys stands in the first m words of the far records
module _ (w ys : List ℕ) (m : ℕ) (r : Roomy w) (fits : m ≤ 16 * capacity w) (same : length ys ≡ m) where
  abbrev from : ℕ
  from = 8192 + 16 * capacity w

  abbrev back : List ℕ
  back = take from w ++ (ys ++ drop m (drop from w))

  head_long : length (take from w) ≡ from
  head_long = length-take-le from w (omega (arith, r.room))

  near : (j : ℕ) → j < from → get_or back j 0 ≡ get_or w j 0
  near j h = get_or-append (take from w) (ys ++ drop m (drop from w)) 0 j (omega (arith, head_long)) ∙ get_or-take from w j 0 h

  after : (i : ℕ) → get_or back (from + i) 0 ≡ get_or (ys ++ drop m (drop from w)) i 0
  after i = ap (λ (x : ℕ). get_or back (x + i) 0) (sym head_long) ∙ get_or-append-add (take from w) (ys ++ drop m (drop from w)) i 0

  within : (i : ℕ) → i < m → get_or back (from + i) 0 ≡ get_or ys i 0
  within i h = after i ∙ get_or-append ys (drop m (drop from w)) 0 i (omega (arith, same))

  beyond : (i : ℕ) → get_or back (from + (m + i)) 0 ≡ get_or w (from + (m + i)) 0
  beyond i =
      after (m + i)
      ∙ ap (λ (x : ℕ). get_or (ys ++ drop m (drop from w)) (x + i) 0) (sym same)
      ∙ get_or-append-add ys (drop m (drop from w)) i 0
      ∙ get_or-drop m (drop from w) i 0
      ∙ get_or-drop from w (m + i) 0

  beyond_at : (j : ℕ) → from + m ≤ j → get_or back j 0 ≡ get_or w j 0
  beyond_at j h =
      let e : j ≡ from + (m + (j - (from + m))) = omega arith in
      subst (λ (x : ℕ). get_or back x 0 ≡ get_or w x 0) (sym e) (beyond (j - (from + m)))

  pub back_long : length back ≡ length w
  back_long =
      length-append (take from w) (ys ++ drop m (drop from w))
      ∙ (let e : length (take from w) + length (ys ++ drop m (drop from w)) ≡ length w =
      omega (arith, head_long, length-append ys (drop m (drop from w)), same, length-drop m (drop from w), length-drop from w, r.room) in e)

  back_capacity : capacity back ≡ capacity w
  unfolding head
  back_capacity = near 1 (omega arith)

  back_roomy : Roomy back
  back_roomy = record { room = omega (arith, back_long, back_capacity, r.room); most = omega (arith, back_capacity, r.most) }

  -- the words without notes are as they were, ..
  pub back_plain : plain back ≡ plain w
  back_plain = plain_is w back back_long back_capacity near (λ j h. beyond_at j (omega arith))

  -- .. ys remembers, ..
  far_at : (j : ℕ) → j < 16 * capacity w → get_or (far back) j 0 ≡ get_or back (from + j) 0
  far_at j h = at_far back j (omega (arith, back_capacity)) ∙ ap (λ (x : ℕ). get_or back (8192 + 16 * x + j) 0) back_capacity

  back_far : take m (far back) ≡ ys
  back_far =
      let a : length (take m (far back)) ≡ m = length-take-le m (far back) (omega (arith, length_far back back_roomy, back_capacity)) in
      ext_get_or 0 (take m (far back)) ys (a ∙ sym same)
      (λ j h. let b : j < m = omega (arith, a) in get_or-take m (far back) j 0 b ∙ far_at j (omega arith) ∙ within j b)

  far_left : (j : ℕ) → m ≤ j → j < 16 * capacity w → get_or (far back) j 0 ≡ get_or (far w) j 0
  far_left j h g = far_at j g ∙ beyond_at (from + j) (omega arith) ∙ sym (at_far w j g)

  -- .. and where it is the window it stays that
  module _ (d : Windowed w) (e : m ≡ window w) where
    back_window : window back ≡ window w
    unfolding window
    back_window =
        ap (λ (c : ℕ). get_or (far back) (16 * c - 1) 0) back_capacity
        ∙ far_left (16 * capacity w - 1) (omega (arith, d.some, d.short)) (omega (arith, d.some))

    pub back_windowed : Windowed back
    back_windowed = record {
      roomy = back_roomy;
      some = omega (arith, back_capacity, d.some);
      short = omega (arith, back_window, back_capacity, d.short);
      empty = λ j h g. far_left j (omega (arith, back_window)) (omega (arith, back_capacity)) ∙ d.empty j (omega (arith, back_window)) (omega (arith, back_capacity));
    }

    pub back_memory : (s : List ℕ) → 0 < m → memory back s ≡ ys
    back_memory s h = memory_far back s (omega (arith, back_window)) ∙ ap (λ (x : ℕ). take x (far back)) (back_window ∙ sym e) ∙ back_far

  -- ys that are 0 leave the words without notes, where there are no others
  pub back_cleared : Cleared ys → ((j : ℕ) → m ≤ j → j < 16 * capacity w → get_or (far w) j 0 ≡ 0) → back ≡ plain w
  back_cleared z o =
      sym (plain_of back (record {
        zeros = λ j a b.
            let e : j ≡ from + (j - from) = omega (arith, back_capacity) in
            subst (λ (x : ℕ). get_or back x 0 ≡ 0) (sym e) (zeros (j - from) (omega (arith, back_capacity)));
      }))
      ∙ back_plain
    where
      zeros : (i : ℕ) → i < 16 * capacity w → get_or back (from + i) 0 ≡ 0
      zeros i h = ⊎_elim
          (λ l. within i l ∙ z.zero i (omega (arith, same)))
          (λ l. sym (far_at i h) ∙ far_left i l h ∙ o i l h)
          (split i m)
