-- Capacity, feature list and functions decide every word of a picture; the words past it decide nothing. Assumes nothing.
use mathlib.Core.Path.{◌≡◌, sym, ap, subst, ◌∙◌}
use mathlib.Core.Logic.{⊎_elim}
use mathlib.Core.List.{List, []}
use Prim.Native.Nat.{ℕ, ◌+◌, ◌-◌, ◌*◌, ◌/◌, ◌%◌, ◌≤◌, ◌<◌}
use native.Mathlib.Omega.{arith}
use lib.ListN.{length, get_or}
use Rattle.theory.specs.Kind.{Kind}
use Rattle.theory.specs.Functions.{Agree, Fun, zero_fun}
use Rattle.theory.specs.Diagrams.{Branch, Node, at}
use Rattle.theory.proofs.Tables.{table_agree}
use Rattle.table_words.specs.Table.{Table}
use Rattle.table_words.specs.Picture.{node_hash, Shows, Pictures}
use Rattle.table_words.proofs.Tab.{same, split}
use Rattle.table_words.proofs.Words.{hash_ext}
use Rattle.promises.specs.Words.{word, head, bound, feature, body, hash_of, hash_at, Zeros}

-- a record that shows a node has its hash
pub hash_shown : {K : Kind} (T : Table K) (N : List (Node K)) (w : List ℕ) (i : ℕ) → feature w i ≡ (at N i).feature → ((v : ℕ) → v < 12 → body w i v ≡ T.body_of (at N i) v)
    → hash_at w i ≡ node_hash T N i
hash_shown T N w i f e = ap (λ (k : ℕ). hash_of k (body w i)) f ∙ hash_ext (at N i).feature (body w i) (T.body_of (at N i)) e

-- ---- roots and nodes are shown by one list of words only
module _ {K : Kind} {T : Table K} {cap : ℕ} {S : List ℕ} {R : List (Branch K)} {N : List (Node K)} {w w' : List ℕ} (a : Shows T cap S R N w) (b : Shows T cap S R N w') where
  in_record : (i r : ℕ) → i < length N → r < 16 → word w i r ≡ word w' i r
  in_record i r h hr = ⊎_elim
      (λ e. rw e (a.tests i h ∙ sym (b.tests i h)))
      (λ e. ⊎_elim
      (λ l.
      let q : r ≡ 1 + (r - 1) = omega (arith, e) in
      ap (word w i) q ∙ a.bodies i (r - 1) h (omega (arith, e)) ∙ sym (b.bodies i (r - 1) h (omega (arith, e))) ∙ ap (word w' i) (sym q))
      (λ l. ⊎_elim
      (λ q. rw q (a.links i h ∙ sym (b.links i h)))
      (λ q.
      let z : r ≡ 14 + (r - 14) = omega (arith, q) in
      ap (word w i) z ∙ a.spare i (r - 14) h (omega arith) ∙ sym (b.spare i (r - 14) h (omega arith)) ∙ ap (word w' i) (sym z))
      (same r 13))
      (split r 13))
      (same r 0)

  in_nodes : (j : ℕ) → 8192 ≤ j → j < 8192 + 16 * length N → get_or w j 0 ≡ get_or w' j 0
  unfolding word
  in_nodes j h g =
      let e : j ≡ 8192 + 16 * ((j - 8192) / 16) + (j - 8192) % 16 = omega arith in
      ap (λ (x : ℕ). get_or w x 0) e ∙ in_record ((j - 8192) / 16) ((j - 8192) % 16) (omega arith) (omega arith) ∙ ap (λ (x : ℕ). get_or w' x 0) (sym e)

  -- words that two lists have from m on, moved to where they stand
  moved : (m j : ℕ) → m ≤ j → get_or w (m + (j - m)) 0 ≡ get_or w' (m + (j - m)) 0 → get_or w j 0 ≡ get_or w' j 0
  moved m j h q =
      let e : j ≡ m + (j - m) = omega arith in
      ap (λ (x : ℕ). get_or w x 0) e ∙ q ∙ ap (λ (x : ℕ). get_or w' x 0) (sym e)

  in_front : (j : ℕ) → j < 3 → get_or w j 0 ≡ get_or w' j 0
  unfolding head
  in_front j h = ⊎_elim
      (λ e. rw e (a.kind_is ∙ sym b.kind_is))
      (λ e. ⊎_elim (λ q. rw q (a.room ∙ sym b.room)) (λ q. let z : j ≡ 2 = omega (arith, e, q) in rw z (a.many ∙ sym b.many)) (same j 1))
      (same j 0)

  in_zeros : (x y j : ℕ) → Zeros w x y → Zeros w' x y → x ≤ j → j < y → get_or w j 0 ≡ get_or w' j 0
  in_zeros x y j p q h g = p.zeros j h g ∙ sym (q.zeros j h g)

  shows_one : (j : ℕ) → j < bound cap → get_or w j 0 ≡ get_or w' j 0
  unfolding head
  shows_one j h =
      ⊎_elim (in_front j) (λ l3.
      ⊎_elim (λ g. moved 3 j l3 (a.sizes_are (j - 3) (omega arith) ∙ sym (b.sizes_are (j - 3) (omega arith)))) (λ l19.
      ⊎_elim (λ e. rw e (a.used ∙ sym b.used)) (λ n19.
      ⊎_elim (λ g. moved 20 j (omega (arith, n19)) (a.shares (j - 20) (omega (arith, n19)) ∙ sym (b.shares (j - 20) (omega (arith, n19))))) (λ l22.
      ⊎_elim (in_zeros 22 32 j a.unused b.unused l22) (λ l32.
      ⊎_elim (λ g. moved 32 j l32 (a.roots_are (j - 32) (omega arith) ∙ sym (b.roots_are (j - 32) (omega arith)))) (λ l64.
      ⊎_elim (in_zeros 64 4096 j a.middle b.middle l64) (λ l4096.
      ⊎_elim (λ g. moved 4096 j l4096 (a.heads (j - 4096) (omega arith) ∙ sym (b.heads (j - 4096) (omega arith)))) (λ l8192.
      ⊎_elim (in_nodes j l8192) (λ l. in_zeros (8192 + 16 * length N) (bound cap) j a.clean b.clean l h)
      (split j (8192 + 16 * length N))) (split j 8192)) (split j 4096)) (split j 64)) (split j 32)) (split j 22)) (same j 19)) (split j 19)) (split j 3)

-- THEOREM: pictures of functions that agree place by place are equal, word for word
pub one_picture : {K : Kind} {T : Table K} {cap : ℕ} {S : List ℕ} (gs hs : List (Fun K)) {w w' : List ℕ} → Pictures T cap S gs w → Pictures T cap S hs w' → length gs ≡ length hs
    → ((p : ℕ) → p < length gs → Agree S (get_or gs p zero_fun) (get_or hs p zero_fun)) → (j : ℕ) → j < bound cap → get_or w j 0 ≡ get_or w' j 0
one_picture {K} {T} {cap} {S} gs hs {w} {w'} a b l g =
    shows_one a (subst (λ (q : List (Branch K) × List (Node K)). Shows T cap S q.0 q.1 w') (sym (table_agree S gs hs l g [])) b)

-- ---- words that agree up to the bound show the same
pub shows_ext : {K : Kind} {T : Table K} {cap : ℕ} {S : List ℕ} {R : List (Branch K)} {N : List (Node K)} {w w' : List ℕ} → length N ≤ cap → bound cap ≤ length w'
    → ((j : ℕ) → j < bound cap → get_or w' j 0 ≡ get_or w j 0) → Shows T cap S R N w → Shows T cap S R N w'
unfolding word head
shows_ext f l e a =
    record {
      long = l;
      kind_is = e 0 (omega arith) ∙ a.kind_is;
      room = e 1 (omega arith) ∙ a.room;
      many = e 2 (omega arith) ∙ a.many;
      sizes_are = λ k h. e (3 + k) (omega arith) ∙ a.sizes_are k h;
      used = e 19 (omega arith) ∙ a.used;
      shares = λ j h. e (20 + j) (omega arith) ∙ a.shares j h;
      unused = record { zeros = λ j h g. e j (omega arith) ∙ a.unused.zeros j h g };
      roots_are = λ p h. e (32 + p) (omega arith) ∙ a.roots_are p h;
      middle = record { zeros = λ j h g. e j (omega arith) ∙ a.middle.zeros j h g };
      heads = λ h g. e (4096 + h) (omega arith) ∙ a.heads h g;
      tests = λ i h. e (8192 + 16 * i + 0) (omega arith) ∙ a.tests i h;
      bodies = λ i v h g. e (8192 + 16 * i + (1 + v)) (omega arith) ∙ a.bodies i v h g;
      links = λ i h. e (8192 + 16 * i + 13) (omega arith) ∙ a.links i h;
      spare = λ i j h g. e (8192 + 16 * i + (14 + j)) (omega arith) ∙ a.spare i j h g;
      clean = record { zeros = λ j h g. e j g ∙ a.clean.zeros j h g };
    }
