-- `push` and `pop` keep the layout. Assumes nothing.
use mathlib.Core.Path.{◌≡◌, sym, ap, ◌∙◌}
use mathlib.Core.Logic.{◌⊎◌, inl, inr, ⊎_elim}
use mathlib.Core.List.{List}
use Prim.Native.Nat.{ℕ, suc, ◌+◌, ◌*◌, ◌<◌}
use native.Mathlib.Numerals.{add-one}
use native.Mathlib.Omega.{arith}
use Rattle.table_words.specs.Words.{listed, Kept}
use Rattle.table_words.proofs.Tab.{split, same}
use Rattle.table_words.proofs.Words.{kept_features, kept_capacity, kept_size, hash_ext, hash_small, hash_at_ext}
use Rattle.table_words.proofs.Chains.{last_ext, last_here, last_not}
use Rattle.table_records.specs.Laid.{Laid}
use Rattle.table_records.specs.Changes.{Pushed, Popped, RecordIs}
use Rattle.promises.specs.Words.{word, capacity, features, count, body, link, bucket, hash_of, hash_at, last_of}

-- the new record is what was asked for
pub pushed_is : (w w' : List ℕ) (k : ℕ) (l : List ℕ) {x y : ℕ} → Pushed w w' k l x y → RecordIs w' (count w) k l
pushed_is w w' k l p = record { feature = p.feature; each = p.new }

-- a record of feature k and body l has their hash
pub hash_is : (w : List ℕ) (i k : ℕ) (l : List ℕ) → RecordIs w i k l → hash_at w i ≡ hash_of k (listed l)
hash_is w i k l q = ap (λ (x : ℕ). hash_of x (body w i)) q.feature ∙ hash_ext k (body w i) (listed l) q.each

pub pushed_kept : (w w' : List ℕ) (k : ℕ) (l : List ℕ) {x y : ℕ} → count w < capacity w → Pushed w w' k l x y → Kept w w'
pushed_kept w w' k l less p =
    record { long = p.long; header = λ j a b. p.header j (omega arith) b (omega arith); past = λ j a. p.after j (omega arith) }

module _ (w w' : List ℕ) (k : ℕ) (l : List ℕ) {x y : ℕ} (ok : Laid w) (less : count w < capacity w) (hk : k < features w) (p : Pushed w w' k l x y) where
  kept : Kept w w'
  kept = pushed_kept w w' k l less p

  cap : capacity w' ≡ capacity w
  cap = kept_capacity w w' kept

  fts : features w' ≡ features w
  fts = kept_features w w' kept

  hash_old : (i : ℕ) → i < count w → hash_at w' i ≡ hash_at w i
  hash_old i a = hash_at_ext w w' i (λ j b. p.old i j a (omega arith))

  hash_new : hash_at w' (count w) ≡ hash_of k (listed l)
  hash_new = hash_is w' (count w) k l (pushed_is w w' k l p)

  which : (i : ℕ) → i < count w' → (i < count w) ⊎ (i ≡ count w)
  which i a = ⊎_elim (λ b. inl b) (λ b. inr (omega (arith, p.more))) (split i (count w))

  heads_now : (x : ℕ) → x < 4096 → bucket w' x ≡ last_of (hash_at w') x (count w')
  heads_now x a =
      let n : count w' ≡ suc (count w) = p.more ∙ add-one (count w) in
      rw n (⊎_elim
      (λ e. rw e (p.first ∙ add-one (count w) ∙ sym (last_here (hash_at w') (hash_of k (listed l)) (count w) hash_new)))
      (λ e. p.header (4096 + x) (omega arith) (omega arith) (omega (arith, e)) ∙ ok.heads x a ∙ sym (last_ext (hash_at w') (hash_at w) x (count w) hash_old)
      ∙ sym (last_not (hash_at w') x (count w) (λ d. e (sym d ∙ hash_new))))
      (same x (hash_of k (listed l))))

  links_old : (i : ℕ) → i < count w → link w' i ≡ last_of (hash_at w') (hash_at w' i) i
  links_old i a =
      p.old i 13 a (omega arith) ∙ ok.links i a
      ∙ sym (ap (λ (x : ℕ). last_of (hash_at w') x i) (hash_old i a) ∙ last_ext (hash_at w') (hash_at w) (hash_at w i) i (λ j b. hash_old j (omega arith)))

  links_new : link w' (count w) ≡ last_of (hash_at w') (hash_at w' (count w)) (count w)
  links_new =
      p.next ∙ ok.heads (hash_of k (listed l)) (hash_small k (listed l))
      ∙ sym (ap (λ (x : ℕ). last_of (hash_at w') x (count w)) hash_new ∙ last_ext (hash_at w') (hash_at w) (hash_of k (listed l)) (count w) hash_old)

  pub pushed_laid : Laid w'
  unfolding word
  pushed_laid = record {
    room = omega (arith, ok.room, cap, p.long);
    within = omega (arith, cap, p.more);
    most = omega (arith, ok.most, cap);
    few = omega (arith, ok.few, fts);
    large = λ j a. rw (kept_size w w' kept ok.few j (omega (arith, fts))) (ok.large j (omega (arith, fts)));
    tests = λ i a. ⊎_elim (λ b. omega (arith, fts, p.old i 0 b (omega arith), ok.tests i b)) (λ e. rw e (omega (arith, fts, p.feature))) (which i a);
    links = λ i a. ⊎_elim (λ b. links_old i b) (λ e. rw e links_new) (which i a);
    heads = heads_now;
    clean = λ j a b. p.after j (omega (arith, p.more)) ∙ ok.clean j (omega (arith, p.more)) (omega (arith, cap));
  }

module _ (w w' : List ℕ) (i : ℕ) (ok : Laid w) (n : count w ≡ suc i) (p : Popped w w' i) where
  pub popped_kept : Kept w w'
  popped_kept = record { long = p.long; header = λ j a b. p.header j (omega arith) b (omega arith); past = λ j a. p.after j (omega (arith, ok.within)) }

  cap' : capacity w' ≡ capacity w
  cap' = kept_capacity w w' popped_kept

  fts' : features w' ≡ features w
  fts' = kept_features w w' popped_kept

  hash_same : (j : ℕ) → j < i → hash_at w' j ≡ hash_at w j
  hash_same j a = hash_at_ext w w' j (λ v b. p.old j v a (omega arith))

  heads_back : (x : ℕ) → x < 4096 → bucket w' x ≡ last_of (hash_at w') x i
  heads_back x a = ⊎_elim
      (λ e. rw e (p.first ∙ ok.links i (omega arith) ∙ sym (last_ext (hash_at w') (hash_at w) (hash_at w i) i hash_same)))
      (λ e. p.header (4096 + x) (omega arith) (omega arith) (omega (arith, e)) ∙ ok.heads x a ∙ ap (last_of (hash_at w) x) n ∙ last_not (hash_at w) x i (λ d. e (sym d))
      ∙ sym (last_ext (hash_at w') (hash_at w) x i hash_same))
      (same x (hash_at w i))

  pub popped_laid : Laid w'
  popped_laid = record {
    room = omega (arith, ok.room, cap', p.long);
    within = omega (arith, cap', p.fewer, ok.within);
    most = omega (arith, ok.most, cap');
    few = omega (arith, ok.few, fts');
    large = λ j a. rw (kept_size w w' popped_kept ok.few j (omega (arith, fts'))) (ok.large j (omega (arith, fts')));
    tests = λ j a. omega (arith, fts', p.fewer, p.old j 0 (omega (arith, p.fewer)) (omega arith), ok.tests j (omega (arith, p.fewer)));
    links = λ j a.
        let b : j < i = omega (arith, p.fewer) in
        p.old j 13 b (omega arith) ∙ ok.links j (omega arith)
        ∙ sym (ap (λ (x : ℕ). last_of (hash_at w') x j) (hash_same j b) ∙ last_ext (hash_at w') (hash_at w) (hash_at w j) j (λ m q. hash_same m (omega arith)));
    heads = λ x a. rw p.fewer (heads_back x a);
    clean = λ j a b. ⊎_elim
        (λ q. p.zero j (omega (arith, p.fewer)) q)
        (λ q. p.after j q ∙ ok.clean j (omega arith) (omega (arith, cap')))
        (split j (8192 + 16 * i + 16));
  }
