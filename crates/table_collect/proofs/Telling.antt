-- What the collector's steps tell in a table of any kind: roots and nodes become those of the places' functions built in turn; with a place set before it, that function is replaced. Assumes nothing.
use mathlib.Core.Path.{◌≡◌, sym, ap, ap₂, subst, ◌∙◌}
use mathlib.Core.List.{List, [], ◌∷◌, ◌++◌}
use Prim.Native.Nat.{ℕ, suc, ◌+◌, ◌≤◌, ◌<◌}
use native.Mathlib.Nat.{le_refl}
use native.Mathlib.Omega.{arith}
use lib.ListN.{length, set}
use Rattle.theory.specs.Diagrams.{Branch, Target, meaning, node}
use Rattle.theory.specs.Kind.{Kind}
use Rattle.theory.specs.Settings.{Valid}
use Rattle.theory.specs.WellFormed.{Ok, Under}
use Rattle.table_words.specs.Picture.{Becomes}
use Rattle.table_words.specs.Table.{Table, Regular, branches, fun_at, nodes}
use Rattle.table_words.specs.Words.{listed, way_of}
use Rattle.table_words.proofs.Reading.{goal_below, length_nodes}
use Rattle.table_words.proofs.Tab.{tab_none, tab_snoc, tab_ext}
use Rattle.table_sweep.specs.Collecting.{Good, Loose, Ready, Moved, Turning, Moving}
use Rattle.table_sweep.specs.Tidy.{Untidy}
use Rattle.table_sweep.proofs.Collecting.{untidy_framed, unlinked_loose, rooted_from, collected}
use Rattle.table_sweep.proofs.Copying.{moved_leaf, moved_marked, moved_new, turning_none, turning_more}
use Rattle.table_sweep.proofs.Finishing.{finished, placed_range, placed_untidy}
use Rattle.table_sweep.proofs.Framing.{few, known, size_small, value_small, branch_before, steady_trans, arm_kept, still_good}
use Rattle.table_sweep.proofs.Placing.{Placed, Rooting, replaced_set, rooting_none, rooting_all, rooting_good, rooting_more}
use Rattle.table_sweep.proofs.Tidying.{tidied}
use Rattle.table_collect.specs.Laying.{Laying, turned}
use Rattle.table_collect.specs.Walk.{Laid, Lawful, Step, moves_step, turns_step, roots_step, Done, ends, found, copied, empty, laid, rootless, rooted, Swept}
use Rattle.promises.specs.Words.{capacity, size, count, sizes, feature, body}

module _ {K : Kind} {T : Table K} (L : Regular T) (Y : Laying T) where
  -- where the word of branch v goes, and where that of node i
  arm_way : (f : ℕ → ℕ) (v : ℕ) → (T.arm f v).to ≡ T.goal (way_of T.first f v)
  arm_way f v = L.arms f v ∙ ap T.goal (Y.ways f v)

  moved_index : {w w' : List ℕ} (b r i j : ℕ) → b ≡ T.first + i → r ≡ T.first + j → Moved T w w' (node i) (node j) → Moved T w w' (T.goal b) (T.goal r)
  moved_index {w} {w'} b r i j eb er m =
      subst (λ (x : Target K). Moved T w w' x (T.goal r)) (sym (ap T.goal eb ∙ L.indices i))
      (subst (λ (x : Target K). Moved T w w' (node i) x) (sym (ap T.goal er ∙ L.indices j)) m)

  -- one branch more
  module _ {w t t' : List ℕ} {i v : ℕ} (l l' : List ℕ) (r : ℕ) (y : Ready T w) (h : i < count w) (hv : v < size w (feature w i)) (m : Moving T w t i v l)
      (c : Moved T t t' (T.goal (way_of T.first (body t i) v)) (T.goal r)) (s : Laid T.first (body t' i) (listed l) (listed l') v r) where
    abbrev new : Branch K
    new = turned T (T.arm (body t' i) v) r

    listed_more : branches T v (listed l) ++ (new ∷ []) ≡ branches T (suc v) (listed l')
    listed_more =
        ap₂ (λ (bs : List (Branch K)) (x : Branch K). bs ++ (x ∷ []))
        (tab_ext (T.arm (listed l)) (T.arm (listed l')) v (λ u hu. sym (Y.others s u hu (value_small y.framed i v h hv))))
        (sym (Y.here s))
        ∙ sym (tab_snoc (T.arm (listed l')) v)

    moving_more : Moving T w t' i (suc v) l'
    moving_more =
        record {
          turning = subst (λ (bs : List (Branch K)). Turning T w t' i (suc v) bs) listed_more
              (turning_more L new y h hv m.turning (subst (λ (x : Target K). Moved T t t' x (T.goal r)) (sym (arm_way (body t i) v)) c)
              (ap (λ (b : Branch K). b.adds) (arm_kept L y.framed (steady_trans m.turning.still.steady c.still.steady) i v h hv)));
          pad = Y.padded s m.pad;
        }

  -- a root word set
  pub placed : (w : List ℕ) (p r : ℕ) → p < T.places → 64 ≤ length w → Placed T w (set w (32 + p) r) p (turned T (T.root_at w p) r)
  placed w p r h l =
      record { replaced = replaced_set w (32 + p) r (omega arith) (omega (arith, Y.many)); here = Y.root w p r h l; others = λ q g n. Y.roots w p q r h g n }

  -- what a step tells
  abbrev Tells : List ℕ → List ℕ → Step → Type 0
  Tells w w' (moves_step b r) = Ready T w → Good T w (T.goal b) → Moved T w w' (T.goal b) (T.goal r)
  Tells w w' (turns_step i v l) = Ready T w → Moving T w w' i v l
  Tells w w' (roots_step p q) = Loose T p w → q ≤ T.places → Rooting T w w' q

  tells : {w w' : List ℕ} {s : Step} → Done T.first w w' s → Tells w w' s
  tells (ends w b h) = λ y g. let e = L.ends b h in subst (λ (x : Target K). Moved T w w x x) (sym e.1) (moved_leaf y)
  tells (found w b r i j eb er h m) = λ y g. moved_index b r i j eb er (moved_marked i j y h m)
  tells (copied b r i eb er h z d p) = λ y g. moved_index b r i _ eb er (moved_new L y h z (tells d y) p)
  tells (empty w l i z) = λ y.
      record { turning = subst (λ (bs : List (Branch K)). Turning T w w i 0 bs) (sym (tab_none (T.arm (listed l)))) (turning_none i y); pad = Y.none (listed l) z }
  tells (laid {w} {t} {t'} {l} {l'} {i} {v} r d h a e s) = λ y.
      let m = tells d y in
      moving_more l l' r y h a m
      (tells e m.turning.still.ready (subst (Good T t) (arm_way (body t i) v) (still_good L y.framed m.turning.still.steady i v h a))) s
  tells (rootless w p) = λ l a. rooting_none L l
  tells (rooted {w} {t} {t'} {p} {q} r d hq e) = λ l a.
      let m = tells d l (omega arith) in
      let c = tells e m.ready (subst (Good T t) (L.tops t q) (rooting_good L l m a)) in
      rooting_more L (T.goal r) l m a (subst (λ (x : Target K). Moved T t t' x (T.goal r)) (sym (L.tops t q)) c) (placed t' q r a (omega (arith, c.still.ready.framed.room)))

  -- ---- the whole
  module _ {p : ℕ} {w : List ℕ} (u : Untidy T p w) (hp : p ≤ T.places) where
    fits : (i : ℕ) → i < count w → (feature w i < 16) × (size w (feature w i) ≤ 8)
    fits i h = let f = untidy_framed u in (omega (arith, known f i h, few f), size_small f i h)

    lower : (i v : ℕ) → i < count w → v < size w (feature w i) → way_of T.first (body w i) v < T.first + i
    lower i v h hv = goal_below L _ i 0 _ (subst (Under _ i 0) (arm_way (body w i) v) (branch_before (untidy_framed u) i v h hv i (le_refl _)))

    untidy_lawful : Lawful T.first T.places p w
    untidy_lawful =
        record {
          walkable = record { least = Y.least; room = u.room; most = u.most; within = u.within; fits = fits; lower = lower };
          rooted = record { many = Y.many; rooted = λ q h. omega (arith, length_nodes T w, goal_below L _ _ 0 _ (subst (Under _ _ 0) (L.tops w q) (u.rooted q h))) };
          place = hp;
          links = u.links;
          heads = u.heads;
        }

  -- a place set, and the whole after it, in range at every setting and as the shares ask: its function is replaced, and no other
  module _ {w w' : List ℕ} {p : ℕ} {b : Branch K} (u : Untidy T p w) (hp : p < T.places) (s : Placed T w w' p b) (ok : Ok (nodes T w) 0 b) where
    pub placed_lawful : Lawful T.first T.places p w'
    placed_lawful = untidy_lawful (placed_untidy L u hp s ok) (omega arith)

    pub placed_becomes : {v : List ℕ} → ((r : List ℕ) → Valid (sizes w) r → T.InRange (meaning (nodes T w) b r))
        → ((q : ℕ) → q < T.places → (r : List ℕ) → Valid (sizes w) r → T.InRange (fun_at T w q r))
        → T.Shared (capacity w') (sizes w') (T.said w') → Swept T.first T.places p w' v → Becomes T p (meaning (nodes T w) b ∷ []) w v
    placed_becomes {v} x o z t =
        let n = placed_untidy L u hp s ok in
        let y : p ≤ T.places = omega arith in
        let c = collected L n (rooted_from L n y t.unlinks (rooting_all (tells t.copies (unlinked_loose L n y t.unlinks) (le_refl _)))) t.brings in
        finished L u hp s v (tidied L n (placed_range L u hp s x o) z c t.links)
