-- The whole collection: the nodes taken out of the chains, the roots copied, the copies brought back. Assumes nothing.
use mathlib.Core.Path.{◌≡◌, sym, ap, ap₂, ◌∙◌}
use mathlib.Core.Logic.{⊎_elim}
use mathlib.Core.List.{List}
use Prim.Native.Nat.{ℕ, ◌+◌, ◌*◌, ◌≤◌, ◌<◌}
use native.Mathlib.Omega.{arith}
use lib.ListN.{length, take}
use Rattle.theory.specs.Build.{table}
use Rattle.theory.specs.Diagrams.{Branch, Node, meaning}
use Rattle.theory.specs.Functions.{Fun}
use Rattle.theory.specs.Kind.{Kind}
use Rattle.table_words.specs.Table.{Table, Regular, node_at, nodes, roots_of, fun_at, funs_of}
use Rattle.table_words.proofs.Tab.{split, same, tab_ext}
use Rattle.table_sweep.specs.Marks.{kept, done, spot, highest}
use Rattle.table_sweep.specs.Sweeping.{Unlinked, Full, Brought}
use Rattle.table_sweep.specs.Collecting.{copies, Framed, Loose, Ready, Steady, Rooted, Collected}
use Rattle.table_sweep.specs.Tidy.{Begun, Untidy}
use Rattle.table_sweep.proofs.Beginning.{begun_front, begun_same, highest_is}
use Rattle.table_sweep.proofs.Bringing.{brought_record, brought_clean}
use Rattle.table_sweep.proofs.Copying.{done_small}
use Rattle.table_sweep.proofs.Placing.{stay_copies}
use Rattle.table_sweep.proofs.Framing.{few, size_most, known, known_copy, steady_trans, same_capacity, same_count, node_same, padded_same, same_size, same_sizes, same_nodes, steady_framed}
use Rattle.promises.specs.Tab.{tab}
use Rattle.promises.specs.Words.{nodes_by, head, word, capacity, size, count, sizes, feature, Zeros}

pub untidy_framed : {K : Kind} {T : Table K} {p : ℕ} {w : List ℕ} → Untidy T p w → Framed T w
untidy_framed u = record { room = u.room; most = u.most; within = u.within; list = u.list; wf = u.wf; spared = u.spared }

full_of : {K : Kind} {T : Table K} {w : List ℕ} → Ready T w → Full w
full_of r = record { room = r.framed.room; most = r.framed.most; within = r.framed.within; fewer = done_small r; stay = r.stay }

-- ---- the nodes behind those of the first places taken out of the chains
pub unlinked_steady : {w w' : List ℕ} {a : ℕ} → count w ≤ capacity w → Unlinked w w' a → Steady w w'
unlinked_steady h c =
    record {
      long = c.long;
      low = c.low;
      middle = λ j l g. c.middle j (omega arith) g;
      near = λ i j l g n. c.words i j g n;
      free = λ j l g. c.after j l;
      past = λ j l. c.after j (omega arith);
    }

module _ {K : Kind} {T : Table K} (L : Regular T) where
  module _ {p : ℕ} {w w' : List ℕ} (u : Untidy T p w) (hp : p ≤ T.places) (c : Unlinked w w' (highest T.first w p)) where
    abbrev framed : Framed T w
    framed = untidy_framed u

    steady : Steady w w'
    steady = unlinked_steady u.within c

    unlinked_nodes : nodes T w' ≡ nodes T w
    unlinked_nodes = same_nodes L framed steady

    unlinked_root : (q : ℕ) → q < T.places → T.root_at w' q ≡ T.root_at w q
    unlinked_root = L.places w w' (λ q h. c.middle (32 + q) (omega arith) (omega arith))

    unlinked_fun : (q : ℕ) → q < T.places → fun_at T w' q ≡ fun_at T w q
    unlinked_fun q h = ap₂ (λ (N : List (Node K)) (b : Branch K). let g : Fun K = meaning N b in g) unlinked_nodes (unlinked_root q h)

    unlinked_begun : Begun T p w'
    unlinked_begun = begun_same p (same_sizes L framed steady) unlinked_nodes (λ q h. unlinked_root q (omega arith)) u.begun

    unlinked_table : table (sizes w') (tab (fun_at T w') p) ≡ table (sizes w) (tab (fun_at T w) p)
    unlinked_table =
        ap₂ (λ (S : List ℕ) (gs : List (Fun K)). table S gs) (same_sizes L framed steady)
        (tab_ext (fun_at T w') (fun_at T w) p (λ q h. unlinked_fun q (omega arith)))

    -- as many nodes stay as building the functions of the first places gives
    stay_is : kept w' ≡ length (table (sizes w') (tab (fun_at T w') p)).1
    stay_is = c.stay ∙ highest_is L p u.begun ∙ ap (λ (q : List (Branch K) × List (Node K)). length q.1) (sym unlinked_table)

    few_stay : kept w' ≤ count w'
    few_stay = omega (arith, stay_is, (begun_front unlinked_begun).1)

    -- and they are those
    stay_are : (table (sizes w') (tab (fun_at T w') p)).1 ≡ copies T w'
    stay_are =
        (begun_front unlinked_begun).0 ∙ ap (λ (n : ℕ). take n (nodes T w')) (sym stay_is) ∙ sym (stay_copies T w' (c.nothing ∙ sym c.stay) few_stay)

    pub unlinked_loose : Loose T p w'
    unfolding head
    unlinked_loose =
        let e1 = same_capacity steady in
        let e19 = same_count steady in
        record {
          framed = steady_framed L framed steady;
          rooted = λ q h. rw (unlinked_root q h, unlinked_nodes) (u.rooted q h);
          nothing = c.nothing ∙ sym c.stay;
          few = few_stay;
          unmarked = λ i h g. c.none i (omega (arith, c.stay)) (omega arith);
          padded = λ i h.
              let l : i < count w = omega (arith, few_stay) in
              padded_same L w w' i i (c.words i 0 (omega arith) (omega arith)) (same_size L framed steady (feature w i) (known framed i l))
              (λ v g. c.words i (1 + v) (omega arith) (omega arith)) (u.padded i l);
          begun = λ k. (unlinked_begun.roots k, stay_are k);
          clean = record { zeros = λ j h g. c.after j (omega arith) ∙ u.clean.zeros j (omega arith) (omega arith) };
        }

    unlinked_funs : funs_of T w' ≡ funs_of T w
    unlinked_funs = tab_ext (fun_at T w') (fun_at T w) T.places unlinked_fun

    pub rooted_from : {t : List ℕ} → Rooted T w' t → Rooted T w t
    rooted_from a =
        record {
          steady = steady_trans steady a.steady;
          ready = a.ready;
          holds = ap₂ (λ (S : List ℕ) (gs : List (Fun K)). table S gs) (sym (same_sizes L framed steady)) (sym unlinked_funs) ∙ a.holds;
        }

  -- ---- the way back
  module _ {p : ℕ} {w t w' : List ℕ} (u : Untidy T p w) (a : Rooted T w t) (b : Brought t w') where
    abbrev full : Full t
    full = full_of a.ready

    cap : capacity t ≡ capacity w
    cap = same_capacity a.steady

    cnt : count t ≡ count w
    cnt = same_count a.steady

    -- record i is copy i
    record_at : (i j : ℕ) → i < done t → j < 16 → word w' i j ≡ word t (spot t i) j
    record_at = brought_record full b

    size_at : (i : ℕ) → i < done t → size w' (feature t (spot t i)) ≡ size t (feature t (spot t i))
    size_at i h = b.header (3 + feature t (spot t i)) (omega (arith, known_copy a.ready i h, few a.ready.framed))

    roots_back : roots_of T t ≡ roots_of T w'
    roots_back =
        tab_ext (T.root_at t) (T.root_at w') T.places (λ p h. sym (L.places t w' (λ q g. b.middle (32 + q) (omega arith) (omega arith)) p h))

    nodes_back : nodes T w' ≡ copies T t
    unfolding nodes_by copies
    nodes_back =
        ap (tab (node_at T w')) b.fewer
        ∙ tab_ext (node_at T w') (λ i. node_at T t (spot t i)) (done t)
        (λ i h. node_same L t w' (spot t i) i (record_at i 0 h (omega arith)) (size_at i h) (λ v hv. record_at i (1 + v) h (omega arith))
        (size_most a.ready.framed (feature t (spot t i)) (known_copy a.ready i h)))

    -- past the nodes the near records are as they were: 0
    near_clean : Zeros t (8192 + 16 * count t) (8192 + 16 * capacity t)
    near_clean =
        let e1 = cap in
        let e19 = cnt in
        record { zeros = λ j h g. a.steady.free j (omega arith) (omega arith) ∙ u.clean.zeros j (omega arith) (omega arith) }

    -- the header below the places
    low : (j : ℕ) → j < 32 → (j ≡ 19 → ⊥) → head w' j ≡ head w j
    unfolding head
    low j h n = ⊎_elim
        (λ p. b.header j p ∙ a.steady.low j (omega arith))
        (λ p. ⊎_elim
        (λ q. b.shares j (omega (arith, n)) q ∙ a.steady.low j q)
        (λ q. ⊎_elim
        (λ r. let e : j ≡ 31 = omega arith in rw e (b.nothing ∙ sym (u.unused.zeros 31 (omega arith) (omega arith))))
        (λ r. let e : j ≡ 30 = omega (arith, r) in rw e (b.gone ∙ sym (u.unused.zeros 30 (omega arith) (omega arith))))
        (same j 31))
        (split j 30))
        (split j 19)

    pub collected : Collected T w w'
    collected =
        let n = b.fewer in
        let z = brought_clean full b near_clean a.ready.before a.ready.clean in
        record {
          long = b.long ∙ a.steady.long;
          low = low;
          middle = λ j h g. b.middle j (omega arith) (omega arith) ∙ a.steady.middle j h g;
          holds = a.holds ∙ ap₂ (λ (bs : List (Branch K)) (M : List (Node K)). let x : List (Branch K) × List (Node K) = (bs, M) in x) roots_back (sym nodes_back);
          fewer = omega (arith, full.fewer, cnt);
          padded = λ i h.
              let l : i < done t = omega arith in
              padded_same L t w' (spot t i) i (record_at i 0 l (omega arith)) (size_at i l) (λ v hv. record_at i (1 + v) l (omega arith)) (a.ready.padded i l);
          spared = λ i j h g. record_at i (14 + j) (omega arith) (omega arith) ∙ a.ready.spared i j (omega arith) g
              ∙ ap₂ (λ (S : List ℕ) (M : List (Node K)). T.spare_of S M i j) (same_sizes L (untidy_framed u) a.steady) (sym nodes_back);
          clean = record { zeros = λ j h g. z.zeros j h (omega (arith, cap)) };
          past = λ j h. b.past j (omega (arith, full.within, cap)) ∙ a.steady.past j h;
        }
