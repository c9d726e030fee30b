-- The far records moved into the near ones' place, and what the way back leaves. Assumes nothing.
use mathlib.Core.Path.{◌≡◌, sym, ap, ◌∙◌}
use mathlib.Core.Logic.{⊎_elim}
use mathlib.Core.List.{List}
use Prim.Native.Nat.{ℕ, ◌+◌, ◌-◌, ◌*◌, ◌≤◌, ◌<◌}
use native.Mathlib.Omega.{arith}
use borrow.Rule.Slice.PartMut.{put_mid}
use Rattle.std.specs.List.{CopiedTo, SameBelow, SameFrom}
use lib.ListN.{length, get_or, set, take, drop, replicate, length-set}
use lib.Seq.{get_or-set_same, get_or-set_other}
use Rattle.table_words.proofs.Chains.{last_ext}
use Rattle.table_words.proofs.Stores.{length_put, put_before, put_behind, length_filled, put_filled}
use Rattle.table_words.proofs.Tab.{split}
use Rattle.table_words.proofs.Words.{hash_at_ext}
use Rattle.table_sweep.specs.Marks.{kept, done, spot}
use Rattle.table_sweep.specs.Sweeping.{Full, Brought, Bare}
use Rattle.table_sweep.proofs.Marking.{spot_kept, spot_far}
use Rattle.promises.specs.Words.{word, head, capacity, count, link, bucket, hash_at, last_of, Zeros}

-- the words from s to j are back
pub record HalfBack (w t : List ℕ) (far s j : ℕ) : Type 0 where
  pub long : length t ≡ length w
  pub low : (x : ℕ) → x < 8192 + s → get_or t x 0 ≡ get_or w x 0
  pub back : (x : ℕ) → s ≤ x → x < j → get_or t (8192 + x) 0 ≡ get_or w (far + x) 0
  pub between : (x : ℕ) → 8192 + j ≤ x → x < far + s → get_or t x 0 ≡ get_or w x 0
  pub gone : (x : ℕ) → s ≤ x → x < j → get_or t (far + x) 0 ≡ 0
  pub past : (x : ℕ) → far + j ≤ x → get_or t x 0 ≡ get_or w x 0

-- the far records copied into the near ones' place, and their own filled with 0
pub back_at_once : (w v ys : List ℕ) (far s e n : ℕ) → length v ≡ length w → s ≤ e → 8192 + e ≤ far → far + e ≤ length w → n ≡ far + e - (far + s)
    → CopiedTo w v (far + s) (8192 + s) n × SameBelow w v (8192 + s) × SameFrom w v (8192 + s + n) → ys ≡ replicate (length (take n (drop (far + s) v))) 0
    → HalfBack w (put_mid (far + s) n v ys) far s e
back_at_once w v ys far s e n len h1 h2 h3 en by z =
    let room : far + s + n ≤ length v = omega arith in
    let long : length ys ≡ n = length_filled 0 (far + s) n v ys 0 room z in
    record {
      long = length_put 0 (far + s) n v ys room long ∙ len;
      low = λ x h. put_before 0 (far + s) n v ys room long x (omega arith) ∙ by.1 x 0 h;
      back = λ x g h.
          let q : far + s + (8192 + x - (8192 + s)) ≡ far + x = omega arith in
          put_before 0 (far + s) n v ys room long (8192 + x) (omega arith) ∙ by.0 (8192 + x) 0 (omega arith) (omega arith) ∙ ap (λ (p : ℕ). get_or w p 0) q;
      between = λ x h g. put_before 0 (far + s) n v ys room long x g ∙ by.2 x 0 (omega arith);
      gone = λ x g h. put_filled 0 (far + s) n v ys 0 room z (far + x) (omega arith) (omega arith);
      past = λ x h. put_behind 0 (far + s) n v ys room long x (omega arith) ∙ by.2 x 0 (omega arith);
    }

pub brought : {w t : List ℕ} (far s end m : ℕ) → Full w → m ≡ done w → far ≡ 8192 + 16 * capacity w → s ≡ 16 * kept w → end ≡ 16 * count w → HalfBack w t far s end
    → Brought w (set (set (set t 19 m) 30 0) 31 0)
unfolding head
brought {w} {t} far s end m f em ef es ee b =
    let l = b.long in
    let r = f.room in
    let u = f.within in
    record {
      long = length-set t₂ 31 0 ∙ length-set t₁ 30 0 ∙ length-set t 19 m ∙ b.long;
      header = λ j h. other j (omega arith) (omega arith) (omega arith) ∙ b.low j (omega arith);
      fewer = get_or-set_other t₂ 31 19 0 0 (omega arith) ∙ get_or-set_other t₁ 30 19 0 0 (omega arith) ∙ get_or-set_same t 19 m 0 (omega arith) ∙ em;
      shares = λ j h g. other j (omega arith) (omega arith) (omega arith) ∙ b.low j (omega arith);
      gone = get_or-set_other t₂ 31 30 0 0 (omega arith) ∙ get_or-set_same t₁ 30 0 0 (omega (arith, length-set t 19 m));
      nothing = get_or-set_same t₂ 31 0 0 (omega (arith, length-set t₁ 30 0, length-set t 19 m));
      middle = λ j h g. other j (omega arith) (omega arith) (omega arith) ∙ b.low j (omega arith);
      front = λ j h g. other j (omega arith) (omega arith) (omega arith) ∙ b.low j (omega arith);
      near = λ j h g. other (8192 + j) (omega arith) (omega arith) (omega arith) ∙ b.back j (omega arith) (omega arith) ∙ ap (λ (x : ℕ). get_or w (x + j) 0) ef;
      between = λ j h g. other j (omega arith) (omega arith) (omega arith) ∙ b.between j (omega arith) (omega arith);
      far = λ j h g.
          let e : 8192 + 16 * get_or w 1 0 + j ≡ far + j = omega arith in
          rw e (other (far + j) (omega arith) (omega arith) (omega arith) ∙ b.gone j (omega arith) (omega arith));
      past = λ j h. other j (omega arith) (omega arith) (omega arith) ∙ b.past j (omega arith);
    }
  where
    t₁ : List ℕ
    t₁ = set t 19 m

    t₂ : List ℕ
    t₂ = set (set t 19 m) 30 0

    other : (x : ℕ) → (x ≡ 19 → ⊥) → (x ≡ 30 → ⊥) → (x ≡ 31 → ⊥) → get_or (set (set (set t 19 m) 30 0) 31 0) x 0 ≡ get_or t x 0
    other x p q r = get_or-set_other (set (set t 19 m) 30 0) 31 x 0 0 r ∙ get_or-set_other (set t 19 m) 30 x 0 0 q ∙ get_or-set_other t 19 x m 0 p

-- ---- what the way back leaves
module _ {w w' : List ℕ} (f : Full w) (b : Brought w w') where
  -- record i is copy i
  pub brought_record : (i j : ℕ) → i < done w → j < 16 → word w' i j ≡ word w (spot w i) j
  unfolding word
  brought_record i j h g = ⊎_elim
      (λ l. b.front (8192 + 16 * i + j) (omega arith) (omega arith) ∙ ap (λ (n : ℕ). word w n j) (sym (spot_kept w i l)))
      (λ l.
      let e : 8192 + 16 * i + j ≡ 8192 + (16 * i + j) = omega arith in
      let q : 8192 + 16 * (capacity w + i) + j ≡ 8192 + 16 * capacity w + (16 * i + j) = omega arith in
      ap (λ (x : ℕ). get_or w' x 0) e ∙ b.near (16 * i + j) (omega arith) (omega (arith, f.fewer)) ∙ ap (λ (x : ℕ). get_or w x 0) (sym q) ∙ ap (λ (n : ℕ). word w n j) (sym (spot_far w i l)))
      (split i (kept w))

  -- every record past the copies is 0, if those past the nodes, before the far copies and past them were
  pub brought_clean : Zeros w (8192 + 16 * count w) (8192 + 16 * capacity w) → Zeros w (8192 + 16 * capacity w) (8192 + 16 * (capacity w + kept w))
      → Zeros w (8192 + 16 * (capacity w + done w)) (8192 + 32 * capacity w) → Zeros w' (8192 + 16 * count w') (8192 + 32 * capacity w)
  brought_clean zn zb zf =
      record {
        zeros = λ j h g.
            ⊎_elim (near j h) (λ p. ⊎_elim (between j p) (λ q. ⊎_elim (far j q) (past j g) (split j (8192 + 16 * (capacity w + count w)))) (split j (8192 + 16 * (capacity w + kept w))))
            (split j (8192 + 16 * count w));
      }
    where
      near : (j : ℕ) → 8192 + 16 * count w' ≤ j → j < 8192 + 16 * count w → get_or w' j 0 ≡ 0
      near j h p =
          let n = b.fewer in
          let e : j ≡ 8192 + (j - 8192) = omega arith in
          ap (λ (x : ℕ). get_or w' x 0) e ∙ b.near (j - 8192) (omega (arith, f.stay)) (omega arith)
          ∙ zf.zeros (8192 + 16 * capacity w + (j - 8192)) (omega arith) (omega (arith, f.within))

      between : (j : ℕ) → 8192 + 16 * count w ≤ j → j < 8192 + 16 * (capacity w + kept w) → get_or w' j 0 ≡ 0
      between j p q = b.between j p q ∙ ⊎_elim (λ l. zn.zeros j p l) (λ l. zb.zeros j l q) (split j (8192 + 16 * capacity w))

      far : (j : ℕ) → 8192 + 16 * (capacity w + kept w) ≤ j → j < 8192 + 16 * (capacity w + count w) → get_or w' j 0 ≡ 0
      far j p q =
          let e : j ≡ 8192 + 16 * capacity w + (j - (8192 + 16 * capacity w)) = omega arith in
          ap (λ (x : ℕ). get_or w' x 0) e ∙ b.far (j - (8192 + 16 * capacity w)) (omega arith) (omega arith)

      past : (j : ℕ) → j < 8192 + 32 * capacity w → 8192 + 16 * (capacity w + count w) ≤ j → get_or w' j 0 ≡ 0
      past j g p = b.past j p ∙ zf.zeros j (omega (arith, f.fewer)) g

  -- the words of a node that stays
  stay_word : (i j : ℕ) → i < kept w → j < 16 → word w' i j ≡ word w i j
  stay_word i j h g = brought_record i j (omega (arith, f.stay)) g ∙ ap (λ (n : ℕ). word w n j) (spot_kept w i h)

  -- the nodes that stay are chained still, if they were in words v that have them too
  pub brought_bare : (v : List ℕ) → ((i j : ℕ) → i < kept w → j < 14 → word w i j ≡ word v i j) → ((i : ℕ) → i < kept w → link v i ≡ last_of (hash_at v) (hash_at v i) i)
      → ((h : ℕ) → h < 4096 → bucket w h ≡ last_of (hash_at v) h (kept w)) → Bare w' (kept w)
  brought_bare v ws ls hs =
      let c = b.header 1 (omega arith) in
      let e : (i : ℕ) → i < kept w → hash_at v i ≡ hash_at w' i = λ i h. sym (hash_at_ext v w' i (λ j l. stay_word i j h (omega arith) ∙ ws i j h (omega arith))) in
      record {
        room = omega (arith, f.room, b.long);
        most = omega (arith, f.most);
        within = omega (arith, f.within, f.fewer, b.fewer);
        upto = omega (arith, f.stay, b.fewer);
        links = λ i h.
            stay_word i 13 h (omega arith) ∙ ws i 13 h (omega arith) ∙ ls i h ∙ ap (λ (x : ℕ). last_of (hash_at v) x i) (e i h)
            ∙ last_ext (hash_at v) (hash_at w') (hash_at w' i) i (λ n l. e n (omega arith));
        heads = λ h g. b.middle (4096 + h) (omega arith) (omega arith) ∙ hs h g ∙ last_ext (hash_at v) (hash_at w') h (kept w) e;
      }
