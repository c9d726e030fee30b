-- The laws of what walks remember, for anything that its entries may say: none, a hit, one result more, nodes added; in the scratch, or in the window. Assumes nothing.
use mathlib.Core.Path.{◌≡◌, sym, ap, subst, ◌∙◌}
use mathlib.Core.Logic.{⊎_elim}
use mathlib.Core.List.{List, ◌++◌}
use Prim.Native.Nat.{ℕ, ◌+◌, ◌*◌, ◌≤◌, ◌<◌}
use native.Mathlib.Omega.{arith}
use lib.ListN.{length, get_or, take, drop, replicate, length-replicate, get_or-replicate, get_or-eq_default}
use lib.Seq.{length-take-le}
use Rattle.table_words.specs.Words.{Kept}
use Rattle.table_words.proofs.Tab.{split}
use Rattle.table_notes.specs.Plain.{Cleared, plain}
use Rattle.table_notes.specs.Far.{far, window, memory, Aside, Windowed, Begun}
use Rattle.table_notes.proofs.Far.{memory_far, aside_memory, grown_windowed, length_far, far_part, back_plain, back_memory, back_windowed}
use Rattle.table_memory.specs.Memory.{noted, key_at, Inside, Remembers, Entry, Recalls, Stored, Noted}
use Rattle.std.proofs.Common.{Option, Some}
use Rattle.table_memory.proofs.Entries.{at_key, key_like}
use Rattle.promises.specs.Words.{capacity}

-- ---- these words
-- the same key and words say the same
said_like : (R : List ℕ → ℕ → ℕ → Type 0) (key key' : List ℕ) (x x' y y' : ℕ) → key ≡ key' → x ≡ x' → y ≡ y' → R key x y → R key' x' y'
said_like R key key' x x' y y' ek ex ey c = rw (← ek, ← ex, ← ey) c

-- a key whose first word is not 0 has words
some_words : (key : List ℕ) → 0 < get_or key 0 0 → 0 < length key
some_words key h = ⊎_elim (λ l. l) (λ l. absurd (omega (arith, get_or-eq_default key 0 {n = 0} l))) (split 0 (length key))

module _ {n : ℕ} {R : List ℕ → ℕ → ℕ → Type 0} where
  -- emptied
  pub remembers_none : (s : List ℕ) → Cleared s → Remembers n R s
  remembers_none s z = record { right = λ i h q. absurd (omega (arith, z.zero ((n + 2) * i + 0) (omega arith))) }

  -- own words, fresh
  pub remembers_fresh : (m : ℕ) → Remembers n R (replicate m 0)
  remembers_fresh m = remembers_none (replicate m 0) (record { zero = λ j h. get_or-replicate m j 0 0 (omega (arith, length-replicate {A = ℕ} m 0)) })

  -- all that was said is said otherwise
  pub remembers_map : {Q : List ℕ → ℕ → ℕ → Type 0} (s : List ℕ) → ((key : List ℕ) (x y : ℕ) → R key x y → Q key x y) → Remembers n R s → Remembers n Q s
  remembers_map s f m = record { right = λ i h q. f (key_at n s i) (noted n s i n) (noted n s i (n + 1)) (m.right i h q) }

module _ {R : List ℕ → ℕ → ℕ → Type 0} where
  known : (s key : List ℕ) (x y : ℕ) → Remembers (length key) R s → (i : ℕ) → Entry s i key x y → 0 < get_or key 0 0 → R key x y
  known s key x y m i e h =
      let l = some_words key h in
      let f : noted (length key) s i 0 ≡ get_or key 0 0 = sym (at_key (length key) s i 0 l) ∙ ap (λ (k : List ℕ). get_or k 0 0) e.keyed in
      said_like R _ key _ x _ y e.keyed e.first e.second (m.right i e.inside (omega (arith, f)))

  more : (s s' key : List ℕ) (x y : ℕ) → Remembers (length key) R s → Stored s s' key x y → R key x y → Remembers (length key) R s'
  more s s' key x y m st c = record { right = right }
    where
      right : (i : ℕ) → Inside (length key) s' i → 0 < noted (length key) s' i 0 → R (key_at (length key) s' i) (noted (length key) s' i (length key)) (noted (length key) s' i (length key + 1))
      right i h q = ⊎_elim
          (λ e. said_like R key _ x _ y _ (sym e.keyed) (sym e.first) (sym e.second) c)
          (λ f.
          let g : Inside (length key) s i = omega (arith, st.long) in
          said_like R _ _ _ _ _ _ (sym (key_like (length key) s s' i g h (λ j l. f j (omega arith)))) (sym (f (length key) (omega arith))) (sym (f (length key + 1) (omega arith)))
          (m.right i g (omega (arith, f 0 (omega arith)))))
          (st.entries i (omega (arith, st.long)))

module _ {n : ℕ} {R : List ℕ → ℕ → ℕ → Type 0} (key : List ℕ) (e : length key ≡ n) where
  -- what is known is right
  pub hit : (s : List ℕ) (x y : ℕ) (r : Option (ℕ × ℕ)) → Remembers n R s → Recalls s key r → r ≡ Some (x, y) → 0 < get_or key 0 0 → R key x y
  hit s x y r m c q h =
      let f : (i : ℕ) × Entry s i key x y = subst (Recalls s key) q c in
      known s key x y (subst (λ (k : ℕ). Remembers k R s) (sym e) m) f.0 f.1 h

  -- one result more
  pub remembers_stored : (s s' : List ℕ) (x y : ℕ) → Remembers n R s → Stored s s' key x y → R key x y → Remembers n R s'
  remembers_stored s s' x y m st c = subst (λ (k : ℕ). Remembers k R s') e (more s s' key x y (subst (λ (k : ℕ). Remembers k R s) (sym e) m) st c)

-- ---- the scratch, or the window
-- one result more, in the window, lent as a part ..
pub stored_far : (w s ys : List ℕ) (from m : ℕ) (key : List ℕ) (x y : ℕ) → Windowed w → from ≡ 8192 + 16 * capacity w → m ≡ window w → 0 < m → Stored (take m (drop from w)) ys key x y
    → (plain (take from w ++ (ys ++ drop m (drop from w))) ≡ plain w) × Stored (memory w s) (memory (take from w ++ (ys ++ drop m (drop from w))) s) key x y
    × Windowed (take from w ++ (ys ++ drop m (drop from w)))
stored_far w s ys from m key x y d a e h st =
    let f : m ≤ 16 * capacity w = omega (arith, d.short) in
    let p : take m (drop from w) ≡ take m (far w) = far_part w m from a f in
    let l : length ys ≡ m = st.long ∙ ap length p ∙ length-take-le m (far w) (omega (arith, length_far w d.roomy)) in
    let q : memory w s ≡ take m (far w) = memory_far w s (omega (arith, e)) ∙ ap (λ (i : ℕ). take i (far w)) (sym e) in
    rw a (
      back_plain w ys m d.roomy f l,
      rw (back_memory w ys m d.roomy f l d e s h, q) (subst (λ (u : List ℕ). Stored u ys key x y) p st),
      back_windowed w ys m d.roomy f l d e,
    )

-- what is recalled is what the memory has
pub recalls_far : (w s : List ℕ) (from m : ℕ) (key : List ℕ) (r : Option (ℕ × ℕ)) → Windowed w → from ≡ 8192 + 16 * capacity w → m ≡ window w → 0 < m → Recalls (take m (drop from w)) key r
    → Recalls (memory w s) key r
recalls_far w s from m key r d a e h q =
    subst (λ (u : List ℕ). Recalls u key r)
    (far_part w m from a (omega (arith, d.short)) ∙ ap (λ (i : ℕ). take i (far w)) e ∙ sym (memory_far w s (omega arith))) q

module _ {n : ℕ} {R : List ℕ → List ℕ → ℕ → ℕ → Type 0} where
  -- at the beginning, from a table at rest
  pub noted_none : (w w' s : List ℕ) (lent m : ℕ) → Begun w w' lent m → Cleared s → Noted n R w' s
  noted_none w w' s lent m b z = record { room = b.windowed; right = remembers_none (memory w' s) (b.none s z) }

  -- what is known is right
  pub noted_hit : (w s key : List ℕ) (x y : ℕ) (r : Option (ℕ × ℕ)) → length key ≡ n → Noted n R w s → Recalls (memory w s) key r → r ≡ Some (x, y) → 0 < get_or key 0 0 → R (plain w) key x y
  noted_hit w s key x y r e d c q h = hit key e (memory w s) x y r d.right c q h

  -- after `remember_in`: one result more
  pub noted_stored : (w w' s s' key : List ℕ) (x y : ℕ) → length key ≡ n → Noted n R w s → (plain w' ≡ plain w) × Stored (memory w s) (memory w' s') key x y × Windowed w'
      → R (plain w) key x y → Noted n R w' s'
  noted_stored w w' s s' key x y e d m c =
      let p = m.0 in
      record { room = m.2; right = rw p (remembers_stored key e (memory w s) (memory w' s') x y d.right m.1 c) }

  -- after nodes were added, where what was said is said of more nodes
  pub noted_made : (w w' s : List ℕ) → Noted n R w s → Kept (plain w) (plain w') → Aside w w' → ((key : List ℕ) (x y : ℕ) → R (plain w) key x y → R (plain w') key x y) → Noted n R w' s
  noted_made w w' s d k a f = let q = aside_memory w w' s a in record { room = grown_windowed w w' k a d.room; right = rw q (remembers_map (memory w s) f d.right) }
