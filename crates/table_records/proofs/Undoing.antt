-- Rolling back, and that it undoes exactly: a laid table is told by its frame and the bodies of its records. Assumes nothing.
use mathlib.Core.Path.{◌≡◌, sym, ap, ◌∙◌}
use mathlib.Core.Logic.{⊎_elim}
use mathlib.Core.List.{List}
use Prim.Native.Nat.{ℕ, suc, ◌+◌, ◌-◌, ◌*◌, ◌/◌, ◌%◌, ◌<◌}
use native.Mathlib.Nat.{div-add-mod, mod-lt}
use native.Mathlib.Omega.{arith}
use lib.ListN.{get_or}
use lib.Seq.{ext_get_or}
use Rattle.table_words.specs.Words.{Kept}
use Rattle.table_words.proofs.Tab.{split, same}
use Rattle.table_words.proofs.Words.{kept_capacity, kept_trans, hash_at_ext}
use Rattle.table_words.proofs.Chains.{last_ext}
use Rattle.table_records.specs.Laid.{Laid}
use Rattle.table_records.specs.Changes.{Popped, Rolled}
use Rattle.table_records.proofs.Laying.{popped_kept, popped_laid}
use Rattle.promises.specs.Words.{word, head, capacity, count, link, hash_at, last_of}

pub roll_more : (w t t' : List ℕ) (m : ℕ) → Rolled w t m → 0 < m → Popped t t' (count t - 1) → Rolled w t' (m - 1)
roll_more w t t' m r l p =
    let c : count t ≡ suc (count t - 1) = omega (arith, r.fewer) in
    record {
      kept = kept_trans w t t' r.kept (popped_kept t t' (count t - 1) r.laid c p);
      laid = popped_laid t t' (count t - 1) r.laid c p;
      fewer = p.fewer ∙ ap (λ (x : ℕ). x - 1) r.fewer;
      old = λ i j a b. p.old i j (omega (arith, r.fewer)) b ∙ r.old i j (omega arith) b;
    }

-- ---- two laid tables with one frame, one count and the same features, bodies and spare words are the same words
module _ (w w' : List ℕ) (a : Laid w) (b : Laid w') (k : Kept w w') (n : count w' ≡ count w)
    (words : (i j : ℕ) → i < count w → j < 16 → (j ≡ 13 → ⊥) → word w' i j ≡ word w i j) where
  hash_like : (i : ℕ) → i < count w → hash_at w' i ≡ hash_at w i
  hash_like i h = hash_at_ext w w' i (λ j l. words i j h (omega arith) (omega arith))

  link_same : (i : ℕ) → i < count w → link w' i ≡ link w i
  link_same i h =
      b.links i (omega (arith, n)) ∙ ap (λ (x : ℕ). last_of (hash_at w') x i) (hash_like i h)
      ∙ last_ext (hash_at w') (hash_at w) (hash_at w i) i (λ j l. hash_like j (omega arith)) ∙ sym (a.links i h)

  word_same : (i j : ℕ) → i < count w → j < 16 → word w' i j ≡ word w i j
  word_same i j h l = ⊎_elim (λ z. rw z (link_same i h)) (λ z. words i j h l z) (same j 13)

  each_word : (j : ℕ) → get_or w' j 0 ≡ get_or w j 0
  unfolding head word
  each_word j = ⊎_elim
      (λ s. ⊎_elim (λ z. rw z n) (λ z. k.header j s z) (same j 19))
      (λ s. ⊎_elim
      (λ s2.
      let x : 4096 + (j - 4096) ≡ j = omega arith in
      rw x at (b.heads (j - 4096) (omega arith) ∙ ap (last_of (hash_at w') (j - 4096)) n ∙ last_ext (hash_at w') (hash_at w) (j - 4096) (count w) hash_like ∙ sym (a.heads (j - 4096) (omega arith))))
      (λ s2. ⊎_elim
      (λ s3.
      let d : 16 * ((j - 8192) / 16) + (j - 8192) % 16 ≡ j - 8192 = div-add-mod (j - 8192) 16 in
      let m : (j - 8192) % 16 < 16 = mod-lt (j - 8192) (omega arith) in
      let x : 8192 + 16 * ((j - 8192) / 16) + (j - 8192) % 16 ≡ j = omega arith in
      rw x at (word_same ((j - 8192) / 16) ((j - 8192) % 16) (omega arith) m))
      (λ s3. ⊎_elim
      (λ s4. b.clean j (omega (arith, n)) (omega (arith, kept_capacity w w' k)) ∙ sym (a.clean j s3 s4))
      (λ s4. k.past j s4)
      (split j (8192 + 16 * capacity w)))
      (split j (8192 + 16 * count w)))
      (split j 8192))
      (split j 4096)

  pub same_words : w' ≡ w
  same_words = ext_get_or 0 w' w k.long (λ j h. each_word j)

-- THE EXACT UNDO: what a call added to w, rolled back, leaves w word for word
pub undone : (w t t' : List ℕ) → Laid w → Kept w t → ((i j : ℕ) → i < count w → j < 16 → (j ≡ 13 → ⊥) → word t i j ≡ word w i j) → Rolled t t' (count w) → t' ≡ w
undone w t t' ok k old r =
    same_words w t' ok r.laid (kept_trans w t t' k r.kept) r.fewer (λ i j h l z. r.old i j h l ∙ old i j h l z)
