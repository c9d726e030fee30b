-- The laws of the notes: none, one more, nodes added, taken away. Assumes nothing.
use mathlib.Core.Path.{◌≡◌, refl, sym, ap, ◌∙◌}
use mathlib.Core.Logic.{⊎_elim}
use mathlib.Core.List.{List}
use Prim.Native.Nat.{ℕ, ◌+◌, ◌*◌, ◌-◌, ◌≤◌, ◌<◌}
use native.Mathlib.Omega.{arith}
use lib.ListN.{get_or, set, length-set}
use lib.Seq.{get_or-set_same, get_or-set_other}
use Rattle.theory.specs.Build.{Ext}
use Rattle.theory.specs.WellFormed.{Mean, Ok}
use Rattle.theory.proofs.Growing.{ext_le}
use Rattle.theory.proofs.Values.{mean_more, value_ext}
use Rattle.table_words.specs.Words.{Kept}
use Rattle.table_words.proofs.Tab.{split, same}
use Rattle.table_words.proofs.Words.{kept_sizes}
use Rattle.rule_words.proofs.Reading.{decode_index, length_nodes}
use Rattle.rule_nodes.specs.Nodes.{Holds}
use Rattle.table_notes.specs.Plain.{Roomy, plain}
use Rattle.table_notes.proofs.Plain.{plain_set, set_capacity, plain_of}
use Rattle.table_notes.proofs.Alike.{plain_like, like_head, plain_kept}
use Rattle.rule_restrict.specs.Notes.{note, note_at, Only}
use Rattle.rule_restrict.specs.Restrict.{restr, Noted}
use Rattle.promises.specs.Words.{head, capacity, count, sizes, bound, Zeros}
use Rattle.promises.specs.RuleWords.{decode, rule_node_list as nodes}

-- ---- which far words are not 0
-- none, once every note is taken away
only_none : (w : List ℕ) (n : ℕ) → Only w n n → plain w ≡ w
only_none w n o = plain_of w (record { zeros = λ j a b. o.zeros j a b (λ i h l e. omega arith) })

-- no note past n
only_past : (w : List ℕ) (n i : ℕ) → Only w 0 n → n ≤ i → i < capacity w → note w i ≡ 0
only_past w n i o h l = o.zeros (note_at w i) (omega arith) (omega arith) (λ m a b e. omega arith)

module _ (w : List ℕ) (i c : ℕ) (r : Roomy w) (h : i < capacity w) where
  abbrev t : List ℕ
  t = set w (note_at w i) c

  put_capacity : capacity t ≡ capacity w
  put_capacity = set_capacity w (note_at w i) c (omega arith) (omega arith)

  put_roomy : Roomy t
  put_roomy = record { room = omega (arith, put_capacity, r.room, length-set w (note_at w i) c); most = omega (arith, put_capacity, r.most) }

  pub put_plain : plain t ≡ plain w
  put_plain = plain_set w (note_at w i) c (omega arith) (omega arith)

  put_count : count t ≡ count w
  unfolding head
  put_count = get_or-set_other w (note_at w i) 19 c 0 (omega arith)

  put_same : note t i ≡ c
  put_same = let e : note_at t i ≡ note_at w i = omega (arith, put_capacity) in rw e (get_or-set_same w (note_at w i) c 0 (omega (arith, r.room)))

  put_other : (j : ℕ) → (j ≡ i → ⊥) → note t j ≡ note w j
  put_other j n =
      let e : note_at t j ≡ note_at w j = omega (arith, put_capacity) in
      rw e (get_or-set_other w (note_at w i) (note_at w j) c 0 (omega (arith, n)))

  -- one more
  only_put : (n : ℕ) → i < n → Only w 0 n → Only t 0 n
  only_put n l o =
      record {
        zeros = λ j a b f.
            get_or-set_other w (note_at w i) j c 0 (λ e. f i (omega arith) l (omega (arith, put_capacity)))
            ∙ o.zeros j (omega (arith, put_capacity)) (omega (arith, put_capacity)) (λ m p q e. f m p q (omega (arith, put_capacity)));
      }

-- one fewer
only_cleared : (w : List ℕ) (i n : ℕ) → Roomy w → i < capacity w → Only w i n → Only (set w (note_at w i) 0) (i + 1) n
only_cleared w i n r h o =
    let e : capacity (set w (note_at w i) 0) ≡ capacity w = put_capacity w i 0 r h in
    record {
      zeros = λ j a b f. ⊎_elim
          (λ z. rw z (get_or-set_same w (note_at w i) 0 0 (omega (arith, r.room))))
          (λ z. get_or-set_other w (note_at w i) j 0 0 z
          ∙ o.zeros j (omega arith) (omega arith) (λ m p q y. ⊎_elim (λ s. z (y ∙ ap (note_at w) s)) (λ s. f m (omega (arith, s)) q (omega (arith, y))) (same m i)))
          (same j (note_at w i));
    }

-- w after the notes of nodes 0 to i - 1 were taken away
pub record Clearing (w t : List ℕ) (i n : ℕ) : Type 0 where
  pub same : plain t ≡ plain w
  pub room : Roomy t
  pub within : n ≤ capacity t
  pub only : Only t i n

pub clearing_more : (w t : List ℕ) (i n : ℕ) → Clearing w t i n → i < n → Clearing w (set t (note_at t i) 0) (i + 1) n
clearing_more w t i n c l =
    let h : i < capacity t = omega (arith, c.within) in
    record {
      same = put_plain t i 0 c.room h ∙ c.same;
      room = put_roomy t i 0 c.room h;
      within = omega (arith, c.within, put_capacity t i 0 c.room h);
      only = only_cleared t i n c.room h c.only;
    }

pub clearing_all : (w t : List ℕ) (n : ℕ) → Clearing w t n n → t ≡ plain w
clearing_all w t n c = sym (only_none t n c.only) ∙ c.same

-- nodes added
only_kept : (w w' : List ℕ) → Kept w w' → count w ≤ count w' → Only w 0 (count w) → Only w' 0 (count w')
only_kept w w' k h o =
    let c : capacity w' ≡ capacity w = k.header 1 (omega arith) (omega arith) in
    record { zeros = λ j a b f. k.past j (omega arith) ∙ o.zeros j (omega arith) (omega arith) (λ m p q e. f m p (omega arith) (omega arith)) }

-- ---- the notes are right
pub noted_none : (w : List ℕ) (f x : ℕ) → count w ≤ capacity w → Zeros w (8192 + 16 * capacity w) (bound (capacity w)) → Noted w f x
noted_none w f x h z =
    record {
      only = record { zeros = λ j a b e. z.zeros j a b };
      right = λ i l p. absurd (omega (arith, z.zeros (note_at w i) (omega arith) (omega arith)));
    }

pub noted_put : (w : List ℕ) (i c f x : ℕ) → Roomy w → count w ≤ capacity w → i < count w → Noted w f x
    → Mean (nodes (plain w)) 0 (sizes (plain w)) (decode c) (restr (plain w) 0 (65536 + i) f x) → Noted (set w (note_at w i) (c + 1)) f x
noted_put w i c f x r h l n m =
    let a : i < capacity w = omega arith in
    let p = put_plain w i (c + 1) r a in
    let q = put_count w i (c + 1) r a in
    record {
      only = rw q (only_put w i (c + 1) r a (count w) l n.only);
      right = λ j b pos. ⊎_elim
          (λ (e : j ≡ i). rw (e, p, put_same w i (c + 1) r a) (let d : c + 1 - 1 ≡ c = omega arith in rw d m))
          (λ (e : j ≡ i → ⊥).
          let o = put_other w i (c + 1) r a j e in
          rw (p, o) (n.right j (omega arith) (omega arith)))
          (same j i);
    }

pub noted_grown : (w w' : List ℕ) (f x : ℕ) → Holds (plain w) → Kept w w' → count w ≤ capacity w → count w' ≤ capacity w → Ext (nodes (plain w)) (nodes (plain w')) → Noted w f x → Noted w' f x
noted_grown w w' f x ok k h h' e n =
    let c : capacity w' ≡ capacity w = k.header 1 (omega arith) (omega arith) in
    let a : count (plain w) ≡ count w = like_head (plain_like w) 19 (omega arith) in
    let a' : count (plain w') ≡ count w' = like_head (plain_like w') 19 (omega arith) in
    let s : sizes (plain w') ≡ sizes (plain w) = kept_sizes (plain w) (plain w') (plain_kept w w' k) ok.laid.laid.few in
    let more : count w ≤ count w' = omega (arith, ext_le e, length_nodes (plain w), length_nodes (plain w')) in
    record {
      only = only_kept w w' k more n.only;
      right = λ i l p.
          let same-note : note w' i ≡ note w i = ap (λ (y : ℕ). get_or w' (8192 + 16 * (y + i)) 0) c ∙ k.past (note_at w i) (omega arith) in
          ⊎_elim
          (λ (b : i < count w).
          let o : Ok (nodes (plain w)) 0 (decode (65536 + i)) = rw (decode_index (65536 + i) i refl) (omega (arith, length_nodes (plain w)), omega arith) in
          let m = mean_more (sizes (plain w)) ok.wf e (n.right i b (omega arith)) in
          rw (s, same-note)
          (record { ok = m.ok; says = λ y v. m.says y v ∙ sym (value_ext (sizes (plain w)) (nodes (plain w)) (nodes (plain w')) 0 (decode (65536 + i)) (set y (f - 0) x) ok.wf e o) }))
          (λ (b : count w ≤ i). absurd (omega (arith, only_past w (count w) i n.only b (omega arith))))
          (split i (count w));
    }
