-- A place set: what stays, and the roots copied in turn, each set to its copy. Assumes nothing.
use mathlib.Core.Path.{◌≡◌, refl, sym, ap, ap₂, subst, ◌∙◌}
use mathlib.Core.List.{List, [], ◌∷◌, ◌++◌}
use Prim.Native.Nat.{ℕ, suc, ◌+◌, ◌*◌, ◌≤◌, ◌<◌}
use native.Mathlib.Omega.{arith}
use lib.ListN.{length, get_or, set, length-set, take, drop, take-append-drop}
use lib.Seq.{get_or-set_other, length-take-le}
use Rattle.theory.specs.Build.{Ext, build, each}
use Rattle.theory.specs.Copying.{Copies, Half, marked}
use Rattle.theory.specs.Diagrams.{Branch, Node, Target, empty}
use Rattle.theory.specs.Functions.{Fun}
use Rattle.theory.specs.Kind.{Kind}
use Rattle.theory.specs.WellFormed.{Ok}
use Rattle.theory.proofs.Copying.{half_kept, marked_kept}
use Rattle.theory.proofs.Growing.{each_last}
use Rattle.theory.proofs.WellFormed.{wf_take}
use Rattle.table_words.specs.Table.{Table, Regular, node_at, nodes, fun_at}
use Rattle.table_words.proofs.Reading.{length_nodes}
use Rattle.table_words.proofs.Sparing.{spare_ext}
use Rattle.table_words.proofs.Tab.{take_tab, tab_snoc, tab_ext}
use Rattle.table_sweep.specs.Marks.{kept, done, spot, mark}
use Rattle.table_sweep.specs.Collecting.{copies, Loose, Ready, Steady, Firm, Moved, Rooted}
use Rattle.table_sweep.proofs.Marking.{spot_kept, spot_same, mark_kept, mark_link, mark_same}
use Rattle.table_sweep.proofs.Framing.{known_copy, size_most, steady_refl, steady_trans, node_same, padded_same, same_size, same_sizes, same_nodes, steady_framed, half_on, copies_back}
use Rattle.promises.specs.Tab.{tab}
use Rattle.promises.specs.Words.{nodes_by, head, word, capacity, size, count, sizes, feature, body}

-- w' is w but for the words of the places
pub record Replaced (w w' : List ℕ) : Type 0 where
  pub long : length w' ≡ length w
  pub low : (j : ℕ) → j < 32 → head w' j ≡ head w j
  pub rest : (j : ℕ) → 64 ≤ j → get_or w' j 0 ≡ get_or w j 0

-- and b stands in place p, in the others what stood there
pub record Placed {K : Kind} (T : Table K) (w w' : List ℕ) (p : ℕ) (b : Branch K) : Type 0 where
  pub replaced : Replaced w w'
  pub here : T.root_at w' p ≡ b
  pub others : (q : ℕ) → q < T.places → (q ≡ p → ⊥) → T.root_at w' q ≡ T.root_at w q

pub replaced_set : (w : List ℕ) (j x : ℕ) → 32 ≤ j → j < 64 → Replaced w (set w j x)
unfolding head
replaced_set w j x lo hi =
    record { long = length-set w j x; low = λ i h. get_or-set_other w j i x 0 (omega arith); rest = λ i h. get_or-set_other w j i x 0 (omega arith) }

-- ---- what stays
module _ {w w' : List ℕ} (c : Replaced w w') where
  words : (i j : ℕ) → word w' i j ≡ word w i j
  unfolding word
  words i j = c.rest (8192 + 16 * i + j) (omega arith)

  pub replaced_steady : Steady w w'
  unfolding head
  replaced_steady =
      record {
        long = c.long;
        low = λ j h. c.low j (omega arith);
        middle = λ j h g. c.rest j h;
        near = λ i j h g n. words i j;
        free = λ j h g. c.rest j (omega arith);
        past = λ j h. c.rest j (omega arith);
      }

  pub replaced_firm : Firm w w'
  unfolding head
  replaced_firm = record { stay = c.low 30 (omega arith); heads = λ h g. c.rest (4096 + h) (omega arith); links = λ i h. words i 13 }

  -- word j of copy x
  copy_word : (x j : ℕ) → word w' (spot w' x) j ≡ word w (spot w x) j
  copy_word x j = ap (λ (n : ℕ). word w' n j) (spot_same w w' (c.low 30 (omega arith)) (c.low 1 (omega arith)) x) ∙ words (spot w x) j

  pub marks : mark w' ≡ mark w
  marks = λ k i. mark_same w w' (c.low 30 (omega arith)) i (λ g. words i 13) k

  module _ {K : Kind} {T : Table K} (L : Regular T) (r : Ready T w) where
    copy_size : (x : ℕ) → x < done w → size w' (feature w (spot w x)) ≡ size w (feature w (spot w x))
    copy_size x h = same_size L r.framed replaced_steady (feature w (spot w x)) (known_copy r x h)

    replaced_copies : copies T w' ≡ copies T w
    unfolding copies
    replaced_copies =
        ap (tab (λ x. node_at T w' (spot w' x))) (c.low 31 (omega arith))
        ∙ tab_ext (λ x. node_at T w' (spot w' x)) (λ x. node_at T w (spot w x)) (done w)
        (λ x h. node_same L w w' (spot w x) (spot w' x) (copy_word x 0) (copy_size x h) (λ v hv. copy_word x (1 + v))
        (size_most r.framed (feature w (spot w x)) (known_copy r x h)))

    replaced_ready : Ready T w'
    replaced_ready =
        let e : capacity w' ≡ capacity w = c.low 1 (omega arith) in
        let n : count w' ≡ count w = c.low 19 (omega arith) in
        let k : kept w' ≡ kept w = c.low 30 (omega arith) in
        let d : done w' ≡ done w = c.low 31 (omega arith) in
        record {
          framed = steady_framed L r.framed replaced_steady;
          half =
              subst (λ (M : List (Node K)). Half (sizes w') (nodes T w') M (mark w')) (sym replaced_copies)
              (subst (λ (g : ℕ → ℕ). Half (sizes w') (nodes T w') (copies T w) g) (sym marks) (half_on L r.framed replaced_steady r.half));
          tallied = d ∙ r.tallied ∙ ap (λ (g : ℕ → ℕ). marked g (count w)) (sym marks) ∙ ap (marked (mark w')) (sym n);
          padded = λ x hx.
              let l : x < done w = omega arith in
              padded_same L w w' (spot w x) (spot w' x) (copy_word x 0) (copy_size x l) (λ v hv. copy_word x (1 + v)) (r.padded x l);
          spared = λ x j hx g. copy_word x (14 + j) ∙ r.spared x j (omega arith) g
              ∙ sym (ap₂ (λ (S : List ℕ) (M : List (Node K)). T.spare_of S M x j) (same_sizes L r.framed replaced_steady) replaced_copies);
          stay = omega (arith, r.stay);
          before = record { zeros = λ j h g. c.rest j (omega arith) ∙ r.before.zeros j (omega arith) (omega arith) };
          clean = record { zeros = λ j h g. c.rest j (omega arith) ∙ r.clean.zeros j (omega arith) (omega arith) };
        }

-- ---- the roots in turn
module _ {K : Kind} (T : Table K) where
  -- the first p roots copied
  pub record Rooting (w t : List ℕ) (p : ℕ) : Type 0 where
    pub steady : Steady w t
    pub ready : Ready T t
    pub turned : each (build 0 (sizes w)) (tab (fun_at T w) p) [] ≡ (tab (T.root_at t) p, copies T t)
    pub ahead : (q : ℕ) → p ≤ q → q < T.places → T.root_at t q ≡ T.root_at w q

-- before the first copy there are the nodes that stay
pub stay_copies : {K : Kind} (T : Table K) (w : List ℕ) → done w ≡ kept w → kept w ≤ count w → copies T w ≡ take (kept w) (nodes T w)
unfolding copies nodes_by
stay_copies T w n f =
    ap (tab (λ x. node_at T w (spot w x))) n
    ∙ tab_ext (λ x. node_at T w (spot w x)) (node_at T w) (kept w) (λ x h. ap (node_at T w) (spot_kept w x h))
    ∙ sym (take_tab (node_at T w) (kept w) (count w) f empty)

module _ {K : Kind} {T : Table K} (L : Regular T) {p : ℕ} {w : List ℕ} (l : Loose T p w) where
  abbrev only : copies T w ≡ take (kept w) (nodes T w)
  only = stay_copies T w l.nothing l.few

  stay_front : Ext (take (kept w) (nodes T w)) (nodes T w)
  stay_front = record { more = drop (kept w) (nodes T w); ends = sym (take-append-drop (kept w) (nodes T w)) }

  stay_long : length (take (kept w) (nodes T w)) ≡ kept w
  stay_long = length-take-le (kept w) (nodes T w) (omega (arith, l.few, length_nodes T w))

  unmarked : (i : ℕ) → kept w ≤ i → i < count w → mark w i ≡ 0
  unmarked i h g = mark_link w i h ∙ l.unmarked i h g

  loose_ready : Ready T w
  loose_ready =
      let n = l.nothing in
      let e = l.few in
      record {
        framed = l.framed;
        half = rw only (half_kept (kept w) l.framed.wf (omega (arith, length_nodes T w)) (mark_kept w) (λ i h g. unmarked i h (omega (arith, length_nodes T w))));
        tallied = l.nothing ∙ sym (marked_kept (mark w) (kept w) (count w) l.few (mark_kept w) unmarked);
        padded = λ i h. let g : i < kept w = omega arith in subst (λ (x : ℕ). T.Padded (size w (feature w x)) (body w x)) (sym (spot_kept w i g)) (l.padded i g);
        spared = λ i j h g.
            let k : i < kept w = omega arith in
            ap (λ (x : ℕ). word w x (14 + j)) (spot_kept w i k) ∙ l.framed.spared i j (omega arith) g
            ∙ sym (spare_ext L (sizes w) (take (kept w) (nodes T w)) (nodes T w) (wf_take (sizes w) (nodes T w) (kept w) l.framed.wf) stay_front i j (omega (arith, stay_long)))
            ∙ ap (λ (M : List (Node K)). T.spare_of (sizes w) M i j) (sym only);
        stay = omega arith;
        before = record { zeros = λ j h g. l.clean.zeros j (omega (arith, l.framed.within)) (omega (arith, l.framed.within)) };
        clean = record { zeros = λ j h g. l.clean.zeros j (omega (arith, l.framed.within)) g };
      }

  pub rooting_none : Rooting T w w p
  rooting_none = record { steady = steady_refl w; ready = loose_ready; turned = l.begun; ahead = λ q h g. refl }

module _ {K : Kind} {T : Table K} where
  pub rooting_all : {w t : List ℕ} → Rooting T w t T.places → Rooted T w t
  rooting_all m = record { steady = m.steady; ready = m.ready; holds = m.turned }

module _ {K : Kind} {T : Table K} (L : Regular T) where
  pub rooting_good : {w t : List ℕ} {p₀ p : ℕ} → Loose T p₀ w → Rooting T w t p → p < T.places → Ok (nodes T t) 0 (T.root_at t p)
  rooting_good {w} {t} {p₀} {p} l m h = rw (m.ahead p (omega arith) h, same_nodes L l.framed m.steady) (l.rooted p h)

  module _ {w t t' t'' : List ℕ} {p₀ p : ℕ} (r : Target K) (l : Loose T p₀ w) (m : Rooting T w t p) (hp : p < T.places) (c : Moved T t t' (T.root_at t p).to r)
      (s : Placed T t' t'' p (record { adds = (T.root_at t' p).adds; to = r })) where
    kept_root : (q : ℕ) → q < T.places → T.root_at t' q ≡ T.root_at t q
    kept_root = L.places t t' c.still.places_kept

    same_root : T.root_at t p ≡ T.root_at w p
    same_root = m.ahead p (omega arith) hp

    abbrev out : Branch K
    out = record { adds = (T.root_at w p).adds; to = r }

    now_root : T.root_at t'' p ≡ out
    now_root =
        s.here ∙ ap (λ (b : Branch K). let x : Branch K = record { adds = b.adds; to = r } in x) (kept_root p hp ∙ same_root)

    other_root : (q : ℕ) → q < T.places → (q ≡ p → ⊥) → T.root_at t'' q ≡ T.root_at t q
    other_root q hq n = s.others q hq n ∙ kept_root q hq

    step : build 0 (sizes w) (fun_at T w p) (copies T t) ≡ (out, copies T t')
    step =
        (subst (λ (b : Branch K). Copies (sizes w) (nodes T w) b.to (copies T t) r (copies T t')) same_root
        (copies_back L l.framed m.steady c.moved)
        ).built 0 (T.root_at w p).adds (l.rooted p hp)

    now_roots : tab (T.root_at t) p ++ (out ∷ []) ≡ tab (T.root_at t'') (suc p)
    now_roots =
        ap₂ (λ (bs : List (Branch K)) (x : Branch K). bs ++ (x ∷ []))
        (tab_ext (T.root_at t) (T.root_at t'') p (λ q h. sym (other_root q (omega arith) (omega arith))))
        (sym now_root)
        ∙ sym (tab_snoc (T.root_at t'') p)

    pub rooting_more : Rooting T w t'' (suc p)
    rooting_more =
        record {
          steady = steady_trans m.steady (steady_trans c.still.steady (replaced_steady s.replaced));
          ready = replaced_ready s.replaced L c.still.ready;
          turned =
              ap (λ (gs : List (Fun K)). each (build 0 (sizes w)) gs []) (tab_snoc (fun_at T w) p)
              ∙ each_last (build 0 (sizes w)) (tab (fun_at T w) p) (fun_at T w p) [] (copies T t) (copies T t') (tab (T.root_at t) p) out m.turned step
              ∙ ap₂ (λ (bs : List (Branch K)) (M : List (Node K)). let x : List (Branch K) × List (Node K) = (bs, M) in x) now_roots
              (sym (replaced_copies s.replaced L c.still.ready));
          ahead = λ q h g. other_root q g (omega arith) ∙ m.ahead q (omega arith) g;
        }
