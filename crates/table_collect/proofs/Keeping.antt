-- What the collector's steps keep: the nodes, the marks of nodes that are not reached, the places ahead; what each step may ask, the filling of a copy's body too. Assumes nothing.
use mathlib.Core.Path.{◌≡◌, refl, sym, ap, subst, ◌∙◌}
use mathlib.Core.Logic.{⊎_elim}
use mathlib.Core.List.{List}
use Prim.Native.Nat.{ℕ, suc, ◌+◌, ◌-◌, ◌*◌, ◌≤◌, ◌<◌}
use native.Mathlib.Nat.{le_refl}
use native.Mathlib.Omega.{arith}
use Rattle.std.proofs.Common.{Some, None}
use lib.ListN.{length}
use lib.Seq.{get_or-set_other}
use Rattle.theory.specs.Copying.{marked}
use Rattle.theory.proofs.Copying.{marked_le, marked_lt, marked_more, marked_kept}
use Rattle.table_words.specs.Words.{listed, way_of}
use Rattle.table_words.proofs.Halves.{way_same}
use Rattle.table_words.proofs.Tab.{same, split}
use Rattle.table_sweep.specs.Marks.{kept, done, mark, highest}
use Rattle.table_sweep.specs.Sweeping.{Linked, Unlinked, Spare, Put, Full, Brought, Bare}
use Rattle.table_sweep.specs.Collecting.{Steady, Firm}
use Rattle.table_sweep.proofs.Bringing.{brought_bare}
use Rattle.table_sweep.proofs.Collecting.{unlinked_steady}
use Rattle.table_sweep.proofs.Framing.{steady_refl, steady_trans, firm_refl, firm_trans, same_capacity, same_count}
use Rattle.table_sweep.proofs.Marking.{mark_kept, mark_link, highest_small}
use Rattle.table_sweep.proofs.Placing.{Replaced, marks, replaced_set, replaced_steady, replaced_firm}
use Rattle.table_sweep.proofs.Writing.{put_stay, put_noted, put_marks, put_steady, put_firm}
use Rattle.table_collect.specs.Walk.{Laid, Walkable, Open, Rooted, Lawful, Step, moves_step, turns_step, roots_step, Done, ends, found, copied, empty, laid, rootless, rooted, Here}
use Rattle.promises.specs.Words.{head, capacity, size, count, feature, body, hash_at, last_of}

-- ---- the nodes stay as they are
module _ {first : ℕ} {w w' : List ℕ} (f : Walkable first w) (k : Steady w w') where
  pub size_same : (i : ℕ) → i < count w → size w' (feature w' i) ≡ size w (feature w i)
  size_same i h = ap (size w') (k.near i 0 (omega (arith, f.within)) (omega arith) (omega arith)) ∙ k.low (3 + feature w i) (omega (arith, (f.fits i h).0))

  walkable_steady : Walkable first w'
  walkable_steady =
      let e1 = same_capacity k in let e19 = same_count k in
      record {
        least = f.least;
        room = omega (arith, f.room, k.long);
        most = omega (arith, f.most);
        within = omega (arith, f.within);
        fits = λ i h.
            let a = f.fits i (omega arith) in (omega (arith, a.0, k.near i 0 (omega (arith, f.within)) (omega arith) (omega arith)), omega (arith, a.1, size_same i (omega arith)));
        lower = λ i v h g.
            let s : v < size w (feature w i) = omega (arith, size_same i (omega arith)) in
            subst (λ (x : ℕ). x < first + i)
            (sym (way_same first (body w' i) (body w i) v (omega (arith, (f.fits i (omega arith)).1)) (λ u hu. k.near i (1 + u) (omega (arith, f.within)) (omega arith) (omega arith))))
            (f.lower i v (omega arith) s);
      }

-- ---- the marks: one more, a place set, none
module _ {first : ℕ} {t : List ℕ} {i : ℕ} (o : Open first t) (h : i < count t) (z : mark t i ≡ 0) where
  spare_of : Spare t i
  spare_of =
      let f = o.walkable in
      record { room = f.room; most = f.most; there = omega (arith, f.within); free = omega (arith, o.tallied, marked_lt (mark t) (count t) i h z, f.within) }

  open_put : {t' l : List ℕ} → Put t t' i l → Open first t'
  open_put {t'} p =
      let s = put_steady spare_of h o.walkable.within p in
      let n = same_count s in
      let o' : (x : ℕ) → x < count t → (x ≡ i → ⊥) → mark t' x ≡ mark t x = λ x hx. put_marks p x (omega (arith, o.walkable.within)) in
      let y = put_noted p z in
      record {
        walkable = walkable_steady o.walkable s;
        tallied = p.more ∙ ap suc o.tallied ∙ sym (marked_more (mark t) (mark t') (count t) i (done t) h z y o') ∙ ap (marked (mark t')) (sym n);
        marks = λ x hx. ⊎_elim
            (λ e. rw e (omega (arith, y, p.more)))
            (λ e. omega (arith, o' x (omega arith) e, o.marks x (omega arith), p.more))
            (same x i);
        stay = omega (arith, o.stay, put_stay p, p.more);
      }

open_placed : {first : ℕ} {t t' : List ℕ} → Open first t → Replaced t t' → Open first t'
open_placed {first} {t} {t'} o c =
    let n : count t' ≡ count t = c.low 19 (omega arith) in
    let d : done t' ≡ done t = c.low 31 (omega arith) in
    record {
      walkable = walkable_steady o.walkable (replaced_steady c);
      tallied = d ∙ o.tallied ∙ ap (λ (g : ℕ → ℕ). marked g (count t)) (sym (marks c)) ∙ ap (marked (mark t')) (sym n);
      marks = λ i h. omega (arith, ap (λ (g : ℕ → ℕ). g i) (marks c), o.marks i (omega arith));
      stay = omega (arith, o.stay, c.low 30 (omega arith));
    }

-- ---- before the first copy
pub unlinked_at : {w w' : List ℕ} {a b : ℕ} → a ≡ b → Unlinked w w' a → Unlinked w w' b
unlinked_at {w} {w'} e c = subst (Unlinked w w') e c

module _ {first n p : ℕ} {w : List ℕ} (l : Lawful first n p w) where
  pub highest_upto : (q : ℕ) → q ≤ p → highest first w q ≤ count w
  highest_upto q g = highest_small first w q (λ x h. l.rooted.rooted x (omega (arith, l.place)))

  highest_few : highest first w p ≤ count w
  highest_few = highest_upto p (le_refl p)

  pub lawful_linked : {a : ℕ} → a ≡ highest first w p → Linked w a
  lawful_linked e =
      let f = l.walkable in
      record { room = f.room; most = f.most; within = f.within; upto = omega (arith, highest_few); links = l.links; heads = l.heads }

  module _ {w' : List ℕ} (c : Unlinked w w' (highest first w p)) where
    steady : Steady w w'
    steady = unlinked_steady l.walkable.within c

    unmarked : (i : ℕ) → kept w' ≤ i → i < count w' → mark w' i ≡ 0
    unmarked i h g = mark_link w' i h ∙ c.none i (omega (arith, c.stay)) (omega (arith, same_count steady))

    few_stay : kept w' ≤ count w'
    few_stay = omega (arith, c.stay, highest_few, same_count steady)

    pub unlinked_open : Open first w'
    unlinked_open =
        record {
          walkable = walkable_steady l.walkable steady;
          tallied = c.nothing ∙ sym c.stay ∙ sym (marked_kept (mark w') (kept w') (count w') few_stay (mark_kept w') unmarked);
          marks = λ i h. ⊎_elim
              (λ g. omega (arith, mark_kept w' i g, c.stay, c.nothing))
              (λ g. omega (arith, unmarked i g h))
              (split i (kept w'));
          stay = omega (arith, c.stay, c.nothing);
        }

    pub unlinked_rooted : Rooted first n w'
    unlinked_rooted =
        let r = l.rooted in
        record { many = r.many; rooted = λ q h. omega (arith, c.middle (32 + q) (omega arith) (omega (arith, r.many)), same_count steady, r.rooted q h) }

-- ---- the way back
pub full_open : {first : ℕ} {w : List ℕ} → Open first w → Full w
full_open {first} {w} o =
    let f = o.walkable in record { room = f.room; most = f.most; within = f.within; fewer = omega (arith, o.tallied, marked_le (mark w) (count w)); stay = o.stay }

-- ---- the steps
-- which nodes keep their marks, which places their words
abbrev Past : ℕ → Step → ℕ → Type 0
Past first (moves_step b r) x = b < first + x
Past first (turns_step i v l) x = i ≤ x
Past first (roots_step p q) x = ⊥

abbrev Ahead : Step → ℕ → Type 0
Ahead (moves_step b r) q = Unit {0}
Ahead (turns_step i v l) q = Unit {0}
Ahead (roots_step p n) q = n ≤ q

pub record Keeps (first : ℕ) (w w' : List ℕ) (s : Step) : Type 0 where
  pub steady : Steady w w'
  pub firm : Firm w w'
  pub open_still : Open first w'
  pub later : (x : ℕ) → x < count w → Past first s x → mark w' x ≡ mark w x
  pub places : (q : ℕ) → q < 32 → Ahead s q → head w' (32 + q) ≡ head w (32 + q)

-- the root of place q ends or goes to a node, and as many nodes stay
pub record Next (first : ℕ) (w t : List ℕ) (q : ℕ) : Type 0 where
  pub opened : Open first t
  pub below : head t (32 + q) < first + count t
  pub long : length t ≡ length w
  pub stay : kept t ≡ kept w

module _ {first : ℕ} where
  stay : {w : List ℕ} {s : Step} → Open first w → Keeps first w w s
  stay {w} o = record { steady = steady_refl w; firm = firm_refl w; open_still = o; later = λ x h g. refl; places = λ q h g. refl }

  -- the next branch word of node i says an earlier node
  next_below : {w t l : List ℕ} {i v : ℕ} → Open first w → i < count w → v < size w (feature w i) → Keeps first w t (turns_step i v l) → way_of first (body t i) v < first + i
  next_below {w} {t} {l} {i} {v} o h hv k =
      k.open_still.walkable.lower i v (omega (arith, same_count k.steady)) (omega (arith, size_same o.walkable k.steady i h))

  -- room for the copy of node i
  room_for : {w t l : List ℕ} {i v : ℕ} → i < count w → mark w i ≡ 0 → Keeps first w t (turns_step i v l) → (i < count t) × (mark t i ≡ 0)
  room_for {w} {t} {l} {i} h z k = (omega (arith, same_count k.steady), k.later i h (le_refl _) ∙ z)

  pub keeps : {w w' : List ℕ} {s : Step} → Done first w w' s → Open first w → Keeps first w w' s
  unfolding head
  keeps (ends w b h) o = stay o
  keeps (found w b r i j eb er h m) o = stay o
  keeps (copied b r i eb er h z d p) o =
      let k = keeps d o in let f = room_for h z k in
      record {
        steady = steady_trans k.steady (put_steady (spare_of k.open_still f.0 f.1) f.0 k.open_still.walkable.within p);
        firm = firm_trans k.firm (put_firm (spare_of k.open_still f.0 f.1) f.1 p);
        open_still = open_put k.open_still f.0 f.1 p;
        later = λ x hx g. put_marks p x (omega (arith, o.walkable.within, same_capacity k.steady)) (omega arith) ∙ k.later x hx (omega arith);
        places = λ q hq g. p.low (32 + q) (omega arith) (omega arith) ∙ k.places q hq tt;
      }
  keeps (empty w l i z) o = stay o
  keeps (laid r d h hv e y) o =
      let k = keeps d o in let m = keeps e k.open_still in
      record {
        steady = steady_trans k.steady m.steady;
        firm = firm_trans k.firm m.firm;
        open_still = m.open_still;
        later = λ x hx g. m.later x (omega (arith, same_count k.steady)) (omega (arith, next_below o h hv k)) ∙ k.later x hx g;
        places = λ q hq g. m.places q hq tt ∙ k.places q hq tt;
      }
  keeps (rootless w p) o = stay o
  keeps (rooted {w} {t} {t'} {p} {q} r d hq e) o =
      let k = keeps d o in let m = keeps e k.open_still in let c = replaced_set t' (32 + q) r (omega arith) (omega arith) in
      record {
        steady = steady_trans k.steady (steady_trans m.steady (replaced_steady c));
        firm = firm_trans k.firm (firm_trans m.firm (replaced_firm c));
        open_still = open_placed m.open_still c;
        later = λ x hx g. absurd g;
        places = λ x hx g. get_or-set_other t' (32 + q) (32 + x) r 0 (omega arith) ∙ m.places x hx tt ∙ k.places x hx (omega arith);
      }

  -- the word of a copy is small
  moves_small : {w w' : List ℕ} {b r : ℕ} → Done first w w' (moves_step b r) → Open first w → r < first + 4096
  moves_small (ends w b h) o = omega arith
  moves_small (found w b r i j eb er h m) o = omega (arith, o.marks i h, (full_open o).fewer, o.walkable.within, o.walkable.most)
  moves_small (copied b r i eb er h z d p) o = let k = keeps d o in let f = room_for h z k in let s = spare_of k.open_still f.0 f.1 in omega (arith, s.free, s.most)

  -- an end, or a node that stays
  pub here_low : {w : List ℕ} {b low : ℕ} → low ≡ first + kept w → b < low → b < first + count w → Here first w b (Some b)
  here_low {w} {b} e l h = ⊎_elim
      (λ g. ends w b g)
      (λ g. let q : b ≡ first + (b - first) = omega arith in found w b b (b - first) (b - first) q q (omega arith) (mark_kept w (b - first) (omega arith)))
      (split b first)

  pub here_none : (w : List ℕ) {b : ℕ} (i : ℕ) → b ≡ first + i → mark w i ≡ 0 → Here first w b None
  here_none w {b} i e z = (omega arith, λ j g. let x : j ≡ i = omega arith in ap (mark w) x ∙ z)

  -- the node that a word without a copy says, copied
  pub copy_at : {w w' : List ℕ} {b j s : ℕ} → Here first w b None → j ≡ b - first → Done first w w' (moves_step (first + j) s) → Done first w w' (moves_step b s)
  copy_at {w} {w'} {b} {j} {s} h e d = let q : first + j ≡ b = omega (arith, h.0) in subst (λ (y : ℕ). Done first w w' (moves_step y s)) q d

  pub root_next : {n p q : ℕ} {w t : List ℕ} → Open first w → Rooted first n w → q < n → Done first w t (roots_step p q) → Next first w t q
  root_next {n} {p} {q} o a h d =
      let k = keeps d o in
      record {
        opened = k.open_still;
        below = omega (arith, k.places q (omega (arith, a.many)) (le_refl _), a.rooted q h, same_count k.steady);
        long = k.steady.long;
        stay = k.firm.stay;
      }

-- ---- the body of a copy filled
-- the first v of the m branches of node i, which has no copy, stand in the body l
pub record Filling (first low : ℕ) (w t : List ℕ) (i m v : ℕ) (l : List ℕ) : Type 0 where
  pub opened : Open first w
  pub lowest : low ≡ first + kept w
  pub there : i < count w
  pub none : mark w i ≡ 0
  pub many : m ≡ size w (feature w i)
  pub upto : v ≤ m
  pub long : length l ≡ 12
  pub turns : Done first w t (turns_step i v l)

module _ {first low i m v : ℕ} {w t l : List ℕ} (x : Filling first low w t i m v l) where
  so_far : Keeps first w t (turns_step i v l)
  so_far = keeps x.turns x.opened

  -- one branch more: its word b, which says an earlier node, becomes r
  module _ (h : v < m) where
    pub near : (8192 + 16 * i + 16 ≤ length t) × (i < 8192) × (v < 8)
    near =
        let f = x.opened.walkable in
        (omega (arith, f.room, f.within, x.there, so_far.steady.long), omega (arith, f.most, f.within, x.there), omega (arith, (f.fits i x.there).1, x.many))

    module _ {b : ℕ} (e : b ≡ way_of first (body t i) v) where
      pub below : b < first + i
      below = omega (arith, e, next_below x.opened x.there (omega (arith, x.many)) so_far)

      pub asks : (Open first t) × (b < first + count t) × (low ≡ first + kept t)
      asks = (so_far.open_still, omega (arith, below, same_count so_far.steady, x.there), omega (arith, x.lowest, so_far.firm.stay))

      -- which has no copy: then it is a node that can be copied
      pub goes : Here first t b None → (j : ℕ) → j ≡ b - first → (j < i) × (Open first t) × (j < count t) × (mark t j ≡ 0) × (low ≡ first + kept t)
      goes n j g = (omega (arith, below, n.0), asks.0, omega (arith, asks.1, n.0), n.1 j (omega (arith, n.0)), asks.2)

      module _ {t' : List ℕ} {r : ℕ} (d : Done first t t' (moves_step b r)) where
        pub lays : (8192 + 16 * i + 16 ≤ length t') × (i < 8192) × (v < 8) × (first ≡ 1 → r < 65536) × (length l ≡ 12)
        lays = (omega (arith, near.0, (keeps d asks.0).steady.long), near.1, near.2, λ q. omega (arith, moves_small d asks.0), x.long)

        pub fills : {l' : List ℕ} → Laid first (body t' i) (listed l) (listed l') v r × (length l' ≡ 12) → Filling first low w t' i m (suc v) l'
        fills s =
            let n : Done first t t' (moves_step (way_of first (body t i) v) r) = subst (λ (y : ℕ). Done first t t' (moves_step y r)) e d in
            let g = laid r x.turns x.there (omega (arith, x.many)) n s.0 in
            record { opened = x.opened; lowest = x.lowest; there = x.there; none = x.none; many = x.many; upto = h; long = s.1; turns = g }

  -- all of them
  pub spare : Spare t i
  spare = let f = room_for x.there x.none so_far in spare_of so_far.open_still f.0 f.1

  pub copies : {t' : List ℕ} {r : ℕ} → m ≤ v → r ≡ first + done t → Put t t' i l → Done first w t' (moves_step (first + i) r)
  copies {t'} {r} h er p = copied (first + i) r i refl er x.there x.none (subst (λ (n : ℕ). Done first w t (turns_step i n l)) (omega (arith, x.upto, x.many)) x.turns) p

-- ---- the whole
-- what is back can be chained: the nodes that stay are as they were before
pub swept_bare : {first n p q : ℕ} {w bare spread back : List ℕ} {a : ℕ} → Lawful first n p w → Unlinked w bare (highest first w p) → Done first bare spread (roots_step p q) → Brought spread back
    → a ≡ highest first w p → Bare back a
swept_bare {first} {n} {p} {q} {w} {bare} {spread} {back} {a} l c d b e =
    let k = keeps d (unlinked_open l c) in
    let s : kept spread ≡ a = k.firm.stay ∙ c.stay ∙ sym e in
    let m : kept bare ≡ kept spread = sym k.firm.stay in
    let z : capacity bare ≡ capacity w = same_capacity (unlinked_steady l.walkable.within c) in
    let few : kept spread ≤ capacity w = omega (arith, e, highest_few l, l.walkable.within) in
    subst (Bare back) s
    (brought_bare (full_open k.open_still) b w
    (λ i j h g. ⊎_elim
    (λ x. rw x (k.firm.links i (omega arith) ∙ c.links i (omega arith)))
    (λ x. k.steady.near i j (omega arith) (omega arith) x ∙ c.words i j (omega arith) x)
    (same j 13))
    (λ i h. l.links i (omega (arith, e, highest_few l)))
    (λ h g. k.firm.heads h g ∙ c.heads h g ∙ ap (last_of (hash_at w) h) (sym e ∙ sym s)))
