-- Words that differ past the near records alone hold the same nodes, of any kind; so do the words with and without notes. Assumes nothing.
use mathlib.Core.Path.{◌≡◌, sym, ap, ◌∙◌}
use mathlib.Core.Logic.{⊎_elim}
use mathlib.Core.List.{List}
use Prim.Native.Nat.{ℕ, ◌+◌, ◌*◌, ◌<◌}
use native.Mathlib.Omega.{arith}
use lib.ListN.{length, get_or}
use Rattle.theory.specs.Diagrams.{Node}
use Rattle.theory.specs.Kind.{Kind}
use Rattle.table_words.specs.Table.{Table, Regular, node_at, nodes}
use Rattle.table_words.specs.Holding as H
use Rattle.table_words.specs.Words.{Kept}
use Rattle.table_words.proofs.Chains.{last_ext}
use Rattle.table_words.proofs.Reading.{node_is}
use Rattle.table_words.proofs.Sparing.{spared_same}
use Rattle.table_words.proofs.Tab.{split, tab_ext}
use Rattle.table_words.proofs.Words.{hash_at_ext}
use Rattle.table_records.specs.Laid.{Laid}
use Rattle.table_records.specs.Nodes.{NodesLaid, layout_of}
use Rattle.table_notes.specs.Plain.{Roomy, plain}
use Rattle.table_notes.proofs.Plain.{length_plain, plain_near, plain_far, plain_past, plain_capacity}
use Rattle.promises.specs.Tab.{tab}
use Rattle.promises.specs.Words.{nodes_by, head, word, capacity, features, size, sizes, count, bound, feature, body, hash_at, last_of}

pub record Like (w u : List ℕ) : Type 0 where
  pub long : length u ≡ length w
  pub near : (j : ℕ) → j < 8192 + 16 * capacity w → get_or u j 0 ≡ get_or w j 0

pub plain_like : (w : List ℕ) → Like w (plain w)
plain_like w = record { long = length_plain w; near = plain_near w }

module _ {w u : List ℕ} (e : Like w u) where
  pub like_head : (j : ℕ) → j < 8192 → head u j ≡ head w j
  unfolding head
  like_head j h = e.near j (omega arith)

  like_word : (i j : ℕ) → i < capacity w → j < 16 → word u i j ≡ word w i j
  unfolding word
  like_word i j h g = e.near (8192 + 16 * i + j) (omega arith)

  cap : capacity u ≡ capacity w
  cap = like_head 1 (omega arith)

  fts : features u ≡ features w
  fts = like_head 2 (omega arith)

  cnt : count u ≡ count w
  cnt = like_head 19 (omega arith)

  pub like_sym : Like u w
  like_sym = record { long = sym e.long; near = λ j h. sym (e.near j (omega (arith, cap))) }

  module _ (d : Laid w) where
    pub like_size : (k : ℕ) → k < features w → size u k ≡ size w k
    like_size k h = like_head (3 + k) (omega (arith, d.few))

    pub like_record : (i j : ℕ) → i < count w → j < 16 → word u i j ≡ word w i j
    like_record i j h g = like_word i j (omega (arith, d.within)) g

    hash : (i : ℕ) → i < count w → hash_at u i ≡ hash_at w i
    hash i h = hash_at_ext w u i (λ j l. like_record i j h (omega arith))

    pub like_sizes : sizes u ≡ sizes w
    unfolding sizes
    like_sizes = ap (tab (size u)) fts ∙ tab_ext (size u) (size w) (features w) like_size

    pub like_laid : Laid u
    like_laid = record {
      room = omega (arith, d.room, e.long, cap);
      within = omega (arith, d.within, cap, cnt);
      most = omega (arith, d.most, cap);
      few = omega (arith, d.few, fts);
      large = λ k h. rw (like_size k (omega (arith, fts))) (d.large k (omega (arith, fts)));
      tests = λ i h. omega (arith, fts, like_record i 0 (omega (arith, cnt)) (omega arith), d.tests i (omega (arith, cnt)));
      links = λ i h.
          let l : i < count w = omega (arith, cnt) in
          like_record i 13 l (omega arith) ∙ d.links i l
          ∙ sym (ap (λ (x : ℕ). last_of (hash_at u) x i) (hash i l) ∙ last_ext (hash_at u) (hash_at w) (hash_at w i) i (λ j b. hash j (omega arith)));
      heads = λ h l.
          like_head (4096 + h) (omega arith) ∙ d.heads h l ∙ sym (ap (last_of (hash_at u) h) cnt ∙ last_ext (hash_at u) (hash_at w) h (count w) hash);
      clean = λ j a b. e.near j (omega (arith, cap)) ∙ d.clean j (omega (arith, cnt)) (omega (arith, cap));
    }

    module _ {K : Kind} {C : Table K} (F : Regular C) where
      pub like_nodes : nodes C u ≡ nodes C w
      unfolding nodes_by
      like_nodes =
          ap (tab (node_at C u)) cnt
          ∙ tab_ext (node_at C u) (node_at C w) (count w)
          (λ i h. node_is F u i (feature w i) (size w (feature w i)) (body w i) (like_record i 0 h (omega arith)) (like_size (feature w i) (d.tests i h))
          (d.large (feature w i) (d.tests i h)).1 (λ v b. like_record i (1 + v) h (omega arith)))

  module _ {K : Kind} {C : Table K} (F : Regular C) where
    like_padded : NodesLaid C w → NodesLaid C u
    like_padded ok =
        let d : Laid w = ok.laid in
        record {
          laid = like_laid d;
          padded = λ i h.
              let l : i < count w = omega (arith, cnt) in
              let s : size u (feature u i) ≡ size w (feature w i) = ap (size u) (like_record d i 0 l (omega arith)) ∙ like_size d (feature w i) (d.tests i l) in
              rw s (F.padded (size w (feature w i)) (body w i) (body u i) (λ v b. sym (like_record d i (1 + v) l (omega arith))) (ok.padded i l));
          spared = spared_same C w u cnt (like_sizes d) (like_nodes d F) (λ i j h g. like_record d i (14 + j) h (omega arith)) ok.spared;
        }

    pub like_holds : H.Holds (layout_of C) w → H.Holds (layout_of C) u
    like_holds ok =
        let s = like_sizes ok.laid.laid in
        let n = like_nodes ok.laid.laid F in
        record { laid = like_padded ok.laid; wf = rw (s, n) ok.wf }

-- ---- what adds nodes adds them to the words without notes
pub plain_kept : (t t' : List ℕ) → Kept t t' → Kept (plain t) (plain t')
plain_kept t t' k =
    let c : capacity t' ≡ capacity t = k.header 1 (omega arith) (omega arith) in
    let p : capacity (plain t) ≡ capacity t = like_head (plain_like t) 1 (omega arith) in
    record {
      long = length_plain t' ∙ k.long ∙ sym (length_plain t);
      header = λ j h n. like_head (plain_like t') j (omega arith) ∙ k.header j h n ∙ sym (like_head (plain_like t) j (omega arith));
      past = λ j h. ⊎_elim
          (λ b. plain_far t' j (omega arith) (omega arith) ∙ sym (plain_far t j (omega arith) b))
          (λ b. plain_past t' j (omega arith) ∙ k.past j (omega arith) ∙ sym (plain_past t j b))
          (split j (bound (capacity t)));
    }

-- and leaves as much room
pub grown_roomy : (t t' : List ℕ) → Kept (plain t) (plain t') → Roomy t → Roomy t'
grown_roomy t t' k r =
    let c : capacity t' ≡ capacity t = sym (plain_capacity t') ∙ k.header 1 (omega arith) (omega arith) ∙ plain_capacity t in
    let l : length t' ≡ length t = sym (length_plain t') ∙ k.long ∙ length_plain t in
    record { room = omega (arith, c, l, r.room); most = omega (arith, c, r.most) }

module _ {K : Kind} {C : Table K} (F : Regular C) where
  pub plain_grown : (t t' : List ℕ) (N : List (Node K)) → H.Grown (layout_of C) t t' N → H.Grown (layout_of C) (plain t) (plain t') N
  plain_grown t t' N g =
      let c : capacity (plain t) ≡ capacity t = like_head (plain_like t) 1 (omega arith) in
      record {
        kept = plain_kept t t' g.kept;
        well = like_holds (plain_like t') F g.well;
        holds = rw c (like_nodes (plain_like t') g.well.laid.laid F ∙ g.holds);
      }
