-- What copying does to the lists that the words hold: the cases of a target, the branches of a node in turn, a new copy. Assumes nothing.
use mathlib.Core.Path.{◌≡◌, refl, sym, ap, ap₂, subst, ◌∙◌}
use mathlib.Core.Logic.{⊎_elim}
use mathlib.Core.List.{List, [], ◌∷◌, ◌++◌}
use Prim.Native.Nat.{ℕ, suc, ◌+◌, ◌-◌, ◌*◌, ◌/◌, ◌%◌, ◌≤◌, ◌<◌}
use native.Mathlib.Omega.{arith}
use lib.ListN.{length, get_or}
use Rattle.theory.specs.Copying.{Copies, Half, Lists, Twin, marked}
use Rattle.theory.specs.Diagrams.{Branch, Node, at, blank, leaf, node}
use Rattle.theory.specs.Kind.{Kind}
use Rattle.theory.proofs.Growing.{ext_append}
use Rattle.theory.proofs.Copying.{copies_leaf, copies_twin, copies_new, lists_none, lists_more, half_new, marked_le, marked_lt, marked_more}
use Rattle.table_words.specs.Table.{Table, Regular, branches, node_at, nodes}
use Rattle.table_words.specs.Words.{listed}
use Rattle.table_words.proofs.Sparing.{spare_ext}
use Rattle.table_words.proofs.Reading.{length_nodes, at_nodes, branch_at_lem, node_is}
use Rattle.table_words.proofs.Tab.{split, tab_snoc, tab_ext, length_tab}
use Rattle.table_sweep.specs.Marks.{kept, done, spot, mark}
use Rattle.table_sweep.specs.Sweeping.{Spare, Put}
use Rattle.table_sweep.specs.Collecting.{copies, Ready, Steady, Still, Moved, Turning, Moving}
use Rattle.table_sweep.proofs.Marking.{spot_kept, spot_far, spot_same}
use Rattle.table_sweep.proofs.Writing.{put_stay, put_noted, put_marks, put_steady}
use Rattle.table_sweep.proofs.Framing.{length_copies, known, known_copy, size_most, size_small, positive, steady_refl, steady_trans, same_capacity, same_count, node_same, padded_same}
use Rattle.table_sweep.proofs.Framing.{same_size, same_sizes, steady_framed, arm_kept, still_before, half_back, half_on, copies_back}
use Rattle.promises.specs.Tab.{tab}
use Rattle.promises.specs.Words.{word, capacity, size, count, sizes, feature, body}

module _ {K : Kind} {T : Table K} where
  still_refl : {w : List ℕ} → Ready T w → Still T w w
  still_refl {w} r = record { steady = steady_refl w; ready = r; places_kept = λ p h. refl }

  still_trans : {a b c : List ℕ} → Still T a b → Still T b c → Still T a c
  still_trans p q = record { steady = steady_trans p.steady q.steady; ready = q.ready; places_kept = λ n h. q.places_kept n h ∙ p.places_kept n h }

  -- ---- an end, and a node that has a copy
  pub moved_leaf : {w : List ℕ} {e : K.End} → Ready T w → Moved T w w (leaf e) (leaf e)
  moved_leaf r = record { still = still_refl r; moved = copies_leaf (positive r.framed) r.half.wf; later = λ x hx l. refl }

  -- no more copies than nodes
  pub done_small : {w : List ℕ} → Ready T w → done w ≤ count w
  done_small {w} r = omega (arith, r.tallied, marked_le (mark w) (count w))

  pub moved_marked : {w : List ℕ} (i j : ℕ) → Ready T w → i < count w → mark w i ≡ suc j → Moved T w w (node i) (node j)
  moved_marked {w} i j r h e =
      let t : Twin (sizes w) (nodes T w) (copies T w) i j = r.half.twin i j (omega (arith, length_nodes T w)) e in
      record { still = still_refl r; moved = copies_twin (positive r.framed) r.framed.wf r.half.wf t; later = λ x hx l. refl }

  -- ---- the branches of a node in turn
  pub turning_none : {w : List ℕ} (i : ℕ) → Ready T w → Turning T w w i 0 []
  turning_none i r = record { still = still_refl r; turned = lists_none; later = λ x hx h. refl }

module _ {K : Kind} {T : Table K} (L : Regular T) where
  module _ {w t t' : List ℕ} {i v : ℕ} {bs : List (Branch K)} (b : Branch K) (ready : Ready T w) (h : i < count w) (hv : v < size w (feature w i)) (m : Turning T w t i v bs)
      (c : Moved T t t' (T.arm (body t i) v).to b.to) (e : b.adds ≡ (T.arm (body w i) v).adds) where
    copied : Copies (sizes w) (nodes T w) (get_or (at (nodes T w) i).branches v blank).to (copies T t) b.to (copies T t')
    copied =
        subst (λ (x : Branch K). Copies (sizes w) (nodes T w) x.to (copies T t) b.to (copies T t'))
        (arm_kept L ready.framed m.still.steady i v h hv ∙ sym (branch_at_lem T w i v h hv))
        (copies_back L ready.framed m.still.steady c.moved)

    pub turning_more : Turning T w t' i (suc v) (bs ++ (b ∷ []))
    turning_more =
        record {
          still = still_trans m.still c.still;
          turned = lists_more ready.framed.wf (omega (arith, length_nodes T w)) m.turned (e ∙ ap (λ (x : Branch K). x.adds) (sym (branch_at_lem T w i v h hv))) copied;
          later = λ x hx hi.
              c.later x (omega (arith, same_count m.still.steady)) (still_before L ready.framed m.still.steady i v h hv x hi) ∙ m.later x hx hi;
        }

  -- ---- a new copy
  module _ {w t : List ℕ} {i : ℕ} {l : List ℕ} (ready : Ready T w) (h : i < count w) (none : mark w i ≡ 0) (m : Moving T w t i (size w (feature w i)) l) where
    abbrev then : Ready T t
    then = m.turning.still.ready

    abbrev so_far : Steady w t
    so_far = m.turning.still.steady

    unmarked : mark t i ≡ 0
    unmarked = m.turning.later i h (omega arith) ∙ none

    here : i < count t
    here = omega (arith, same_count so_far)

    spare_for : Spare t i
    spare_for =
        record {
          room = then.framed.room;
          most = then.framed.most;
          there = omega (arith, here, then.framed.within);
          free = omega (arith, then.tallied, marked_lt (mark t) (count t) i here unmarked, then.framed.within);
        }

    module _ {t' : List ℕ} (p : Put t t' i l) where
      steady : Steady t t'
      steady = put_steady spare_for here then.framed.within p

      steady_all : Steady w t'
      steady_all = steady_trans so_far steady

      room_same : capacity t' ≡ capacity t
      room_same = p.low 1 (omega arith) (omega arith)

      spot_new : spot t' (done t) ≡ capacity t + done t
      spot_new = spot_far t' (done t) (omega (arith, put_stay p, then.stay)) ∙ ap (λ (n : ℕ). n + done t) room_same

      abbrev new : Node K
      new = record { feature = (at (nodes T w) i).feature; branches = branches T (size w (feature w i)) (listed l) }

      -- word j of an old copy, and the words of the new one
      old_word : (x j : ℕ) → x < done t → j < 16 → (j ≡ 13 → ⊥) → word t' (spot t' x) j ≡ word t (spot t x) j
      old_word x j hx hj q = ap (λ (n : ℕ). word t' n j) (spot_same t t' (put_stay p) room_same x) ∙ ⊎_elim
          (λ g. ap (λ (n : ℕ). word t' n j) (spot_kept t x g) ∙ steady.near x j (omega (arith, spare_for.free)) hj q ∙ ap (λ (n : ℕ). word t n j) (sym (spot_kept t x g)))
          (λ g. ap (λ (n : ℕ). word t' n j) (spot_far t x g) ∙ p.old x j hx hj ∙ ap (λ (n : ℕ). word t n j) (sym (spot_far t x g)))
          (split x (kept t))

      feature_new : feature t' (spot t' (done t)) ≡ feature w i
      feature_new = ap (feature t') spot_new ∙ p.feature ∙ so_far.near i 0 (omega (arith, ready.framed.within)) (omega arith) (omega arith)

      body_new : (v : ℕ) → v < 12 → body t' (spot t' (done t)) v ≡ listed l v
      body_new v hv = ap (λ (n : ℕ). body t' n v) spot_new ∙ p.new v hv

      size_same : size t' (feature w i) ≡ size w (feature w i)
      size_same = same_size L ready.framed steady_all (feature w i) (known ready.framed i h)

      size_old : (x : ℕ) → x < done t → size t' (feature t (spot t x)) ≡ size t (feature t (spot t x))
      size_old x hx = same_size L then.framed steady (feature t (spot t x)) (known_copy then x hx)

      new_node : node_at T t' (spot t' (done t)) ≡ new
      new_node =
          node_is L t' (spot t' (done t)) (feature w i) (size w (feature w i)) (listed l) feature_new size_same (size_small ready.framed i h) body_new
          ∙ ap (λ (k : ℕ). let x : Node K = record { feature = k; branches = branches T (size w (feature w i)) (listed l) } in x)
          (sym (ap (λ (x : Node K). x.feature) (at_nodes T w i h)))

      copies_put : copies T t' ≡ copies T t ++ (new ∷ [])
      unfolding copies
      copies_put =
          ap (tab (λ x. node_at T t' (spot t' x))) p.more
          ∙ tab_snoc (λ x. node_at T t' (spot t' x)) (done t)
          ∙ ap₂ (λ (N : List (Node K)) (x : Node K). N ++ (x ∷ []))
          (tab_ext (λ x. node_at T t' (spot t' x)) (λ x. node_at T t (spot t x)) (done t)
          (λ x hx. node_same L t t' (spot t x) (spot t' x) (old_word x 0 hx (omega arith) (omega arith)) (size_old x hx)
          (λ v hv. old_word x (1 + v) hx (omega arith) (omega arith)) (size_most then.framed (feature t (spot t x)) (known_copy then x hx))))
          new_node

      abbrev was_half : Half (sizes w) (nodes T w) (copies T t) (mark t)
      was_half = half_back L ready.framed so_far then.half

      there : i < length (nodes T w)
      there = omega (arith, length_nodes T w)

      all_listed : Lists (sizes w) (nodes T w) i (copies T w) (length (at (nodes T w) i).branches) (branches T (size w (feature w i)) (listed l)) (copies T t)
      all_listed =
          subst (λ (n : ℕ). Lists (sizes w) (nodes T w) i (copies T w) n (branches T (size w (feature w i)) (listed l)) (copies T t))
          (sym (ap (λ (x : Node K). length x.branches) (at_nodes T w i h) ∙ length_tab (T.arm (body w i)) (size w (feature w i))))
          m.turning.turned

      now_copied : Copies (sizes w) (nodes T w) (node i) (copies T w) (node (length (copies T t))) (copies T t ++ (new ∷ []))
      now_copied = copies_new (positive ready.framed) ready.framed.wf ready.half.wf there was_half unmarked all_listed

      others : (x : ℕ) → x < count w → (x ≡ i → ⊥) → mark t' x ≡ mark t x
      others x hx q = put_marks p x (omega (arith, ready.framed.within, same_capacity so_far)) q

      noted : mark t' i ≡ suc (done t)
      noted = put_noted p unmarked

      now_half : Half (sizes w) (nodes T w) (copies T t ++ (new ∷ [])) (mark t')
      now_half =
          half_new (positive ready.framed) ready.framed.wf ready.half.wf there was_half unmarked all_listed
          (noted ∙ ap suc (sym (length_copies T t))) (λ x hx q. others x (omega (arith, length_nodes T w)) q)

      -- a far record is an old one or the new one
      now_padded : (x : ℕ) → x < done t' → T.Padded (size t' (feature t' (spot t' x))) (body t' (spot t' x))
      now_padded x hx = ⊎_elim old fresh (split x (done t))
        where
          old : x < done t → T.Padded (size t' (feature t' (spot t' x))) (body t' (spot t' x))
          old g =
              padded_same L t t' (spot t x) (spot t' x) (old_word x 0 g (omega arith) (omega arith)) (size_old x g) (λ v hv. old_word x (1 + v) g (omega arith) (omega arith)) (then.padded x g)

          new_padded : T.Padded (size t' (feature t' (spot t' (done t)))) (body t' (spot t' (done t)))
          new_padded =
              subst (λ (n : ℕ). T.Padded n (body t' (spot t' (done t)))) (sym (ap (size t') feature_new ∙ size_same))
              (L.padded (size w (feature w i)) (listed l) (body t' (spot t' (done t))) (λ v hv. sym (body_new v hv)) m.pad)

          fresh : done t ≤ x → T.Padded (size t' (feature t' (spot t' x))) (body t' (spot t' x))
          fresh g =
              let e : done t ≡ x = omega (arith, p.more) in
              subst (λ (n : ℕ). T.Padded (size t' (feature t' (spot t' n))) (body t' (spot t' n))) e new_padded

      -- an old copy's spare words are those that it has in the longer list, the new one's are those of its node
      now_spared : (x j : ℕ) → x < done t' → j < 2 → word t' (spot t' x) (14 + j) ≡ T.spare_of (sizes t') (copies T t') x j
      now_spared x j hx g = ⊎_elim old fresh (split x (done t))
        where
          old : x < done t → word t' (spot t' x) (14 + j) ≡ T.spare_of (sizes t') (copies T t') x j
          old l =
              old_word x (14 + j) l (omega arith) (omega arith)
              ∙ then.spared x j l g
              ∙ spare_ext L (sizes t) (copies T t) (copies T t ++ (new ∷ [])) then.half.wf (ext_append (copies T t) (new ∷ [])) x j (omega (arith, length_copies T t))
              ∙ sym (ap₂ (λ (S : List ℕ) (M : List (Node K)). T.spare_of S M x j) (same_sizes L then.framed steady) copies_put)

          new_spared : word t' (spot t' (done t)) (14 + j) ≡ T.spare_of (sizes t') (copies T t') (done t) j
          new_spared =
              ap (λ (n : ℕ). word t' n (14 + j)) spot_new
              ∙ p.spare j g
              ∙ so_far.near i (14 + j) (omega (arith, ready.framed.within)) (omega arith) (omega arith)
              ∙ ready.framed.spared i j h g
              ∙ L.spared (sizes w) (nodes T w) (copies T t ++ (new ∷ [])) i (done t) j (now_half.twin i (done t) there noted)
              ∙ sym (ap₂ (λ (S : List ℕ) (M : List (Node K)). T.spare_of S M (done t) j) (same_sizes L ready.framed steady_all) copies_put)

          fresh : done t ≤ x → word t' (spot t' x) (14 + j) ≡ T.spare_of (sizes t') (copies T t') x j
          fresh l =
              let e : done t ≡ x = omega (arith, p.more) in
              subst (λ (n : ℕ). word t' (spot t' n) (14 + j) ≡ T.spare_of (sizes t') (copies T t') n j) e new_spared

      -- the far words before the first copy
      old_far : (j : ℕ) → 8192 + 16 * capacity t ≤ j → j < 8192 + 16 * (capacity t + kept t) → get_or t' j 0 ≡ get_or t j 0
      unfolding word
      old_far j h g =
          let e : j ≡ 8192 + 16 * (capacity t + ((j - 8192) / 16 - capacity t)) + (j - 8192) % 16 = omega arith in
          ap (λ (x : ℕ). get_or t' x 0) e ∙ p.old ((j - 8192) / 16 - capacity t) ((j - 8192) % 16) (omega (arith, then.stay)) (omega arith) ∙ ap (λ (x : ℕ). get_or t x 0) (sym e)

      now_ready : Ready T t'
      now_ready =
          let c = room_same in
          record {
            framed = steady_framed L then.framed steady;
            half = subst (λ (M : List (Node K)). Half (sizes t') (nodes T t') M (mark t')) (sym copies_put) (half_on L ready.framed steady_all now_half);
            tallied =
                p.more
                ∙ ap suc then.tallied
                ∙ sym (marked_more (mark t) (mark t') (count t) i (done t) here unmarked noted (λ x hx q. others x (omega (arith, same_count so_far)) q))
                ∙ ap (marked (mark t')) (sym (same_count steady));
            padded = now_padded;
            spared = now_spared;
            stay = omega (arith, put_stay p, then.stay, p.more);
            before = record {
              zeros = λ j hj g. old_far j (omega arith) (omega (arith, put_stay p)) ∙ then.before.zeros j (omega arith) (omega (arith, put_stay p));
            };
            clean = record { zeros = λ j hj g. p.after j (omega (arith, p.more)) ∙ then.clean.zeros j (omega (arith, p.more)) (omega arith) };
          }

      pub moved_new : Moved T w t' (node i) (node (done t))
      moved_new =
          record {
            still = still_trans m.turning.still (record { steady = steady; ready = now_ready; places_kept = λ n hn. p.low (32 + n) (omega arith) (omega arith) });
            moved =
                subst (λ (M : List (Node K)). Copies (sizes w) (nodes T w) (node i) (copies T w) (node (done t)) M) (sym copies_put)
                (subst (λ (n : ℕ). Copies (sizes w) (nodes T w) (node i) (copies T w) (node n) (copies T t ++ (new ∷ []))) (length_copies T t) now_copied);
            later = λ x hx hb. others x hx (omega (arith, hb.0)) ∙ m.turning.later x hx (omega (arith, hb.0));
          }
