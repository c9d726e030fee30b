-- The nodes from a on taken out of the chains: a chain walked down, the chain heads in turn, then the links. Assumes nothing.
use mathlib.Core.Path.{◌≡◌, sym, ap, subst, ◌∙◌}
use mathlib.Core.Logic.{⊎_elim}
use mathlib.Core.List.{List}
use Prim.Native.Nat.{ℕ, ◌+◌, ◌-◌, ◌*◌, ◌≤◌, ◌<◌}
use native.Mathlib.Omega.{arith}
use lib.ListN.{length, get_or, set, length-set}
use lib.Seq.{get_or-set_same, get_or-set_other}
use Rattle.table_words.proofs.Chains.{last_ext, last_is, last_down}
use Rattle.table_words.proofs.Tab.{same}
use Rattle.table_words.proofs.Words.{hash_at_ext}
use Rattle.table_sweep.specs.Sweeping.{Linked, Chain, Cut, Unlinked}
use Rattle.promises.specs.Words.{head, word, count, hash_at, last_of}

-- ---- one chain
-- c is the last node below some e, which is not below a
pub record Going (w : List ℕ) (h a c : ℕ) : Type 0 where
  pub end : ℕ
  pub upto : end ≤ count w
  pub reach : a ≤ end
  pub is : c ≡ last_of (hash_at w) (h - 4096) end

module _ {w : List ℕ} {h a : ℕ} (k : Chain w h a) where
  module _ {c : ℕ} (g : Going w h a c) where
    within : c ≤ g.end
    within = omega (arith, g.is, (last_is (hash_at w) (h - 4096) g.end).within)

    module _ (l : a < c) where
      pub here : c - 1 < count w
      here = omega (arith, within, g.upto)

      hash : hash_at w (c - 1) ≡ h - 4096
      hash = subst (λ (n : ℕ). hash_at w (n - 1) ≡ h - 4096) (sym g.is) ((last_is (hash_at w) (h - 4096) g.end).hash (omega (arith, g.is)))

      pub going_more : {x : ℕ} → x ≡ word w (c - 1) 13 → (x < c) × Going w h a x
      going_more {x} e =
          let q : x ≡ last_of (hash_at w) (h - 4096) (c - 1) = e ∙ k.links (c - 1) here ∙ ap (λ (n : ℕ). last_of (hash_at w) n (c - 1)) hash in (
            omega (arith, q, (last_is (hash_at w) (h - 4096) (c - 1)).within),
            record { end = c - 1; upto = omega (arith, here); reach = omega arith; is = q },
          )

    pub going_last : c ≤ a → c ≡ last_of (hash_at w) (h - 4096) a
    going_last l = g.is ∙ sym (last_down (hash_at w) (h - 4096) a g.end g.reach (omega (arith, g.is)))

-- ---- the chain heads
-- those before word h begin below a
pub record Cutting (w t : List ℕ) (a h : ℕ) : Type 0 where
  pub long : length t ≡ length w
  pub front : (x : ℕ) → x < 4096 → get_or t x 0 ≡ get_or w x 0
  pub heads : (x : ℕ) → 4096 ≤ x → x < h → get_or t x 0 ≡ last_of (hash_at w) (x - 4096) a
  pub after : (x : ℕ) → h ≤ x → get_or t x 0 ≡ get_or w x 0

module _ {w t : List ℕ} {a h : ℕ} (c : Cutting w t a h) (lo : 4096 ≤ h) (hi : h < 8192) where
  hash_same : (i : ℕ) → hash_at t i ≡ hash_at w i
  unfolding word
  hash_same i = hash_at_ext w t i (λ j l. c.after (8192 + 16 * i + j) (omega arith))

  last_same : (x e : ℕ) → last_of (hash_at t) x e ≡ last_of (hash_at w) x e
  last_same x e = last_ext (hash_at t) (hash_at w) x e (λ i l. hash_same i)

  pub cutting_chain : Linked w a → Chain t h a
  unfolding head word
  cutting_chain k =
      let e1 = c.front 1 (omega arith) in
      let e19 = c.front 19 (omega arith) in
      let q : 4096 + (h - 4096) ≡ h = omega arith in
      record {
        room = omega (arith, k.room, c.long);
        most = omega (arith, k.most);
        within = omega (arith, k.within);
        upto = omega (arith, k.upto);
        hash = (lo, hi);
        links = λ i l.
            c.after (8192 + 16 * i + 13) (omega arith) ∙ k.links i (omega arith)
            ∙ ap (λ (x : ℕ). last_of (hash_at w) x i) (sym (hash_same i)) ∙ sym (last_same (hash_at t i) i);
        top =
            c.after h (omega arith) ∙ ap (λ (x : ℕ). get_or w x 0) (sym q) ∙ k.heads (h - 4096) (omega arith)
            ∙ ap (last_of (hash_at w) (h - 4096)) (sym e19) ∙ sym (last_same (h - 4096) (get_or t 19 0));
      }

  pub cutting_more : (r : ℕ) → 8192 ≤ length w → r ≡ last_of (hash_at t) (h - 4096) a → Cutting w (set t h r) a (h + 1)
  cutting_more r long e =
      let l = c.long in
      record {
        long = length-set t h r ∙ c.long;
        front = λ x g. get_or-set_other t h x r 0 (omega arith) ∙ c.front x g;
        heads = λ x g u. ⊎_elim
            (λ q. rw q (get_or-set_same t h r 0 (omega arith) ∙ e ∙ last_same (h - 4096) a))
            (λ n. get_or-set_other t h x r 0 n ∙ c.heads x g (omega (arith, n)))
            (same x h);
        after = λ x g. get_or-set_other t h x r 0 (omega arith) ∙ c.after x (omega arith);
      }

pub cut : {w t : List ℕ} {a : ℕ} (h : ℕ) → h ≡ 8192 → Cutting w t a h → Cut w t a
unfolding head
cut {w} {t} {a} h e c =
    record {
      long = c.long;
      front = c.front;
      heads = λ x g. let q : 4096 + x - 4096 ≡ x = omega arith in c.heads (4096 + x) (omega arith) (omega arith) ∙ ap (λ (n : ℕ). last_of (hash_at w) n a) q;
      after = λ j g. c.after j (omega arith);
    }

-- ---- the links
-- those of the nodes from a to i are 0, and every other word is kept
pub record Unlinking (w t : List ℕ) (a i : ℕ) : Type 0 where
  pub long : length t ≡ length w
  pub none : (n : ℕ) → a ≤ n → n < i → get_or t (8192 + 16 * n + 13) 0 ≡ 0
  pub other : (j : ℕ) → ((n : ℕ) → a ≤ n → n < i → j ≡ 8192 + 16 * n + 13 → ⊥) → get_or t j 0 ≡ get_or w j 0

pub unlinking_more : {w t : List ℕ} {a : ℕ} (i : ℕ) → a ≤ i → 8192 + 16 * i + 16 ≤ length w → Unlinking w t a i → Unlinking w (set t (8192 + 16 * i + 13) 0) a (i + 1)
unlinking_more {w} {t} {a} i h l u =
    let q = u.long in
    record {
      long = length-set t (8192 + 16 * i + 13) 0 ∙ u.long;
      none = λ n g k. ⊎_elim
          (λ e. rw e (get_or-set_same t (8192 + 16 * i + 13) 0 0 (omega arith)))
          (λ e. get_or-set_other t (8192 + 16 * i + 13) (8192 + 16 * n + 13) 0 0 (omega (arith, e)) ∙ u.none n g (omega (arith, e)))
          (same n i);
      other = λ j f. get_or-set_other t (8192 + 16 * i + 13) j 0 0 (f i h (omega arith)) ∙ u.other j (λ n g k. f n g (omega arith));
    }

module _ {w v t : List ℕ} {a : ℕ} (i x y : ℕ) (k : Linked w a) (c : Cut w v a) (u : Unlinking v t a i) (ei : i ≡ count v) (ex : x ≡ a) (ey : y ≡ a) where
  abbrev out : List ℕ
  out = set (set t 30 x) 31 y

  noted : (j : ℕ) → (j ≡ 30 → ⊥) → (j ≡ 31 → ⊥) → get_or out j 0 ≡ get_or t j 0
  noted j p q = get_or-set_other (set t 30 x) 31 j y 0 q ∙ get_or-set_other t 30 j x 0 p

  low_kept : (j : ℕ) → j < 8192 → (j ≡ 30 → ⊥) → (j ≡ 31 → ⊥) → get_or out j 0 ≡ get_or v j 0
  low_kept j h p q = noted j p q ∙ u.other j (λ n g l e. omega arith)

  pub unlinked : Unlinked w out a
  unfolding head word
  unlinked =
      let n : i ≡ get_or w 19 0 = ei ∙ c.front 19 (omega arith) in
      let l : length t ≡ length w = u.long ∙ c.long in
      let r = k.room in
      record {
        long = length-set (set t 30 x) 31 y ∙ length-set t 30 x ∙ l;
        low = λ j h. low_kept j (omega arith) (omega arith) (omega arith) ∙ c.front j (omega arith);
        stay = get_or-set_other (set t 30 x) 31 30 y 0 (omega arith) ∙ get_or-set_same t 30 x 0 (omega arith) ∙ ex;
        nothing = get_or-set_same (set t 30 x) 31 y 0 (omega (arith, length-set t 30 x)) ∙ ey;
        middle = λ j h g. low_kept j (omega arith) (omega arith) (omega arith) ∙ c.front j g;
        heads = λ h g. low_kept (4096 + h) (omega arith) (omega arith) (omega arith) ∙ c.heads h g;
        words = λ m j h g.
            noted (8192 + 16 * m + j) (omega arith) (omega arith) ∙ u.other (8192 + 16 * m + j) (λ b p q e. omega (arith, g)) ∙ c.after (8192 + 16 * m + j) (omega arith);
        links = λ m h.
            noted (8192 + 16 * m + 13) (omega arith) (omega arith) ∙ u.other (8192 + 16 * m + 13) (λ b p q e. omega arith) ∙ c.after (8192 + 16 * m + 13) (omega arith);
        none = λ m h g. noted (8192 + 16 * m + 13) (omega arith) (omega arith) ∙ u.none m h (omega arith);
        after = λ j h. noted j (omega arith) (omega arith) ∙ u.other j (λ b p q e. omega arith) ∙ c.after j (omega arith);
      }
