-- The search for a twin along a chain, and the chains of the first nodes. Assumes nothing.
use mathlib.Core.Path.{◌≡◌, sym, ap, subst, ◌∙◌}
use mathlib.Core.Logic.{⊎_elim}
use mathlib.Core.List.{List}
use Prim.Native.Nat.{ℕ, zero, suc, ◌+◌, ◌-◌, ◌≤◌, ◌<◌}
use native.Mathlib.Omega.{arith}
use native.Mathlib.Numerals.{add-one}
use lib.ListN.{length, get_or, set, length-set}
use lib.Seq.{get_or-set_same, get_or-set_other}
use Rattle.table_words.proofs.Tab.{same, split}
use Rattle.table_words.proofs.Words.{hash_ext}
use Rattle.table_words.proofs.Chains.{last_none, last_here, last_not, Last, last_is}
use Rattle.promises.specs.Words.{word, feature, body, link, hash_of, hash_at, last_of}
use Rattle.promises.specs.Sound.{Same, Alone, Linked}

-- twins agree word by word
pub same_word : (w : List ℕ) (i j : ℕ) → Same w i j → (v : ℕ) → v < 13 → word w i v ≡ word w j v
same_word w i j s zero h = s.feature
same_word w i j s (suc v) h = let e : suc v ≡ 1 + v = omega arith in rw e (s.each v (omega arith))

-- twins have one hash
pub same_hash : (w : List ℕ) (i j : ℕ) → Same w i j → hash_at w i ≡ hash_at w j
same_hash w i j s = ap (λ (k : ℕ). hash_of k (body w i)) s.feature ∙ hash_ext (feature w j) (body w i) (body w j) s.each

-- the search for node i's twin along its chain: c is where it stands, and no node from c on is one
pub record Sought (w : List ℕ) (i c : ℕ) : Type 0 where
  pub within : c ≤ i
  pub hash : 0 < c → hash_at w (c - 1) ≡ hash_at w i
  pub none : (j : ℕ) → c ≤ j → j < i → Same w i j → ⊥

pub sought_first : (w : List ℕ) (i c : ℕ) → Linked w (i + 1) → c ≡ link w i → Sought w i c
sought_first w i c l e =
    let r : Last (hash_at w) (hash_at w i) i c = subst (Last (hash_at w) (hash_at w i) i) (sym (e ∙ l.links i (omega arith))) (last_is (hash_at w) (hash_at w i) i) in
    record { within = r.within; hash = r.hash; none = λ j h g s. r.gap j h g (sym (same_hash w i j s)) }

pub sought_next : (w : List ℕ) (i c c' : ℕ) → Linked w (i + 1) → 0 < c → Sought w i c → (Same w i (c - 1) → ⊥) → c' ≡ link w (c - 1) → (Sought w i c') × (c' < c)
sought_next w i c c' l p s n e =
    let r : Last (hash_at w) (hash_at w (c - 1)) (c - 1) c' =
    subst (Last (hash_at w) (hash_at w (c - 1)) (c - 1)) (sym (e ∙ l.links (c - 1) (omega (arith, s.within)))) (last_is (hash_at w) (hash_at w (c - 1)) (c - 1)) in (
      record {
        within = omega (arith, r.within, s.within);
        hash = λ q. r.hash q ∙ s.hash p;
        none = λ j h g x. ⊎_elim
            (λ d. r.gap j h d (sym (same_hash w i j x) ∙ sym (s.hash p)))
            (λ d. ⊎_elim (λ q. n (subst (Same w i) q x)) (λ q. s.none j (omega (arith, q)) g x) (same j (c - 1)))
            (split j (c - 1));
      },
      omega (arith, r.within),
    )

-- the first i nodes chained, the chains' ends in a list of their own
pub record Chaining (w : List ℕ) (i : ℕ) (last : List ℕ) : Type 0 where
  pub sized : length last ≡ 4096
  pub tails : (h : ℕ) → h < 4096 → get_or last h 0 ≡ last_of (hash_at w) h i
  pub linked : Linked w i
  pub single : (x : ℕ) → x < i → Alone w x

pub chaining_none : (w last : List ℕ) → length last ≡ 4096 → ((h : ℕ) → h < 4096 → get_or last h 0 ≡ 0) → Chaining w 0 last
chaining_none w last l z =
    record { sized = l; tails = λ h g. z h g ∙ sym (last_none (hash_at w) h); linked = record { links = λ i h. absurd (omega arith) }; single = λ x h. absurd (omega arith) }

-- node i's link is the end of its chain
pub linked_more : (w last : List ℕ) (i h x : ℕ) → Chaining w i last → h ≡ hash_at w i → h < 4096 → x ≡ link w i → x ≡ get_or last h 0 → Linked w (i + 1)
linked_more w last i h x c eh hh ex e =
    record {
      links = λ j hj. ⊎_elim
          (λ q. subst (λ (y : ℕ). link w y ≡ last_of (hash_at w) (hash_at w y) y) (sym q) (sym ex ∙ e ∙ c.tails h hh ∙ ap (λ (y : ℕ). last_of (hash_at w) y i) eh))
          (λ q. c.linked.links j (omega (arith, q)))
          (same j i);
    }

pub chaining_more : (w last : List ℕ) (i h x : ℕ) → Chaining w i last → Linked w (i + 1) → Alone w i → h ≡ hash_at w i → h < 4096 → x ≡ i + 1 → Chaining w (i + 1) (set last h x)
chaining_more w last i h x c l a eh hh ex =
    record {
      sized = length-set last h x ∙ c.sized;
      tails = λ g hg. ⊎_elim
          (λ q. rw q (get_or-set_same last h x 0 (omega (arith, c.sized)) ∙ ex ∙ sym (rw add-one (last_here (hash_at w) h i (sym eh)))))
          (λ q. get_or-set_other last h g x 0 q ∙ c.tails g hg ∙ sym (rw add-one (last_not (hash_at w) g i (λ y. q (sym (eh ∙ y))))))
          (same g h);
      linked = l;
      single = λ y hy. ⊎_elim (λ q. subst (Alone w) (sym q) a) (λ q. c.single y (omega (arith, q))) (same y i);
    }
