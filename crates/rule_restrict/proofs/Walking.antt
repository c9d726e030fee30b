-- The steps of the walk, in turn: what each asks and what it leaves, read with and without the notes. Assumes nothing.
use Rattle.std.specs.Prelude.{Option, None, Some}
use mathlib.Core.Path.{◌≡◌, sym, subst, ◌∙◌}
use mathlib.Core.List.{List}
use Prim.Native.Nat.{ℕ, ◌+◌, ◌-◌, ◌≤◌, ◌<◌}
use native.Mathlib.Nat.{le_refl}
use native.Mathlib.Omega.{arith}
use lib.ListN.{length, set}
use Rattle.theory.specs.Diagrams.{next}
use Rattle.theory.specs.Functions.{held}
use Rattle.theory.specs.Rules.{Rule}
use Rattle.theory.specs.WellFormed.{Mean}
use Rattle.theory.proofs.Growing.{ext_le, make_grows}
use Rattle.theory.proofs.Values.{value_ext}
use Rattle.table_words.specs.Words.{listed, Kept}
use Rattle.table_words.proofs.Filling.{grown_ext}
use Rattle.table_words.proofs.Words.{kept_features, kept_capacity, kept_size, kept_sizes}
use Rattle.rule_words.proofs.Reading.{length_nodes}
use Rattle.rule_nodes.specs.Nodes.{Holds, Result, Makes, Listed, Place, Filling, top}
use Rattle.rule_nodes.proofs.Filling.{fill_start, fill_more, fill_stop, stop_result, fill_listed, fill_make, filling_ext, filling_place, result_ext, result_mean, mean_result}
use Rattle.rule_nodes.proofs.Reading.{lawful, good_small}
use Rattle.rule_nodes.proofs.Stepping.{is_node, good_top, top_good, place_next}
use Rattle.table_notes.specs.Plain.{Roomy, plain}
use Rattle.table_notes.proofs.Plain.{length_plain, plain_of}
use Rattle.table_notes.proofs.Alike.{plain_like, like_sym, like_head}
use Rattle.rule_restrict.specs.Notes.{note, note_at, Only}
use Rattle.rule_restrict.specs.Restrict.{restr, Holding, Noted, Walks, Walked}
use Rattle.rule_notes.proofs.Reading.{like_holds, like_nodes, like_top, like_place, like_listed, plain_makes}
use Rattle.rule_restrict.proofs.Noting.{put_plain, noted_none, noted_put, noted_grown}
use Rattle.rule_restrict.proofs.Restricting.{place_at, restr_here, restr_held, restr_from, restr_next}
use Rattle.promises.specs.Words.{capacity, features, size, sizes, count}
use Rattle.promises.specs.RuleWords.{decode, rule_node_list as nodes}

-- the header without notes is the header
plain_features : (w : List ℕ) → features (plain w) ≡ features w
plain_features w = like_head (plain_like w) 2 (omega arith)

plain_count : (w : List ℕ) → count (plain w) ≡ count w
plain_count w = like_head (plain_like w) 19 (omega arith)

plain_size : (w : List ℕ) (k : ℕ) → k < 16 → size (plain w) k ≡ size w k
plain_size w k h = like_head (plain_like w) (3 + k) (omega arith)

holds_back : (w : List ℕ) → Holds (plain w) → Holds w
holds_back w ok = like_holds (like_sym (plain_like w)) ok

-- what is kept without the notes has as much room
room_kept : (w t : List ℕ) → Roomy w → Kept (plain w) (plain t) → Roomy t
room_kept w t r k =
    let c : capacity t ≡ capacity w = sym (like_head (plain_like t) 1 (omega arith)) ∙ kept_capacity (plain w) (plain t) k ∙ like_head (plain_like w) 1 (omega arith) in
    let l : length t ≡ length w = sym (length_plain t) ∙ k.long ∙ length_plain w in
    record { room = omega (arith, r.room); most = omega (arith, r.most) }

module _ (w : List ℕ) (b f x : ℕ) (q : Walks w b f x) where
  abbrev P : List ℕ
  P = plain w

  abbrev ok_p : Holds P
  ok_p = q.place.holds

  pub walk_holds : Holds w
  walk_holds = holds_back w ok_p

  pub walk_small : b < 65536 + count w
  walk_small = omega (arith, good_small P 0 b q.place.good, plain_count w)

  pub walk_known : f < features w
  walk_known = omega (arith, q.known, plain_features w)

  pub walk_value : x < size w f
  walk_value = omega (arith, q.value, plain_size w f (omega (arith, walk_known, walk_holds.laid.laid.few)))

  walk_top : top P b ≡ top w b
  walk_top = like_top (plain_like w) walk_holds.laid.laid b walk_small

  -- ---- what tests nothing below f
  pub asks_here : f ≤ top w b → Place w f b
  asks_here h = like_place (like_sym (plain_like w)) ok_p f b (place_at P b f x q.place q.known f (omega (arith, walk_top)) (le_refl f))

  pub walked_here : (c : ℕ) → f ≤ top w b → decode c ≡ next (nodes w) f (decode b) x → Walked w w b f x (Some c)
  walked_here c h d =
      let n = like_nodes (plain_like w) walk_holds in
      record { result = restr_here P b f x q.place q.known c (omega (arith, walk_top)) (rw n d); noted = q.noted }

  -- ---- a node of a feature below f
  pub node_here : top w b < f → 65536 ≤ b
  node_here h = is_node w b (omega (arith, walk_known))

  module _ (k i : ℕ) (e : k ≡ top w b) (lt : k < f) (ei : i ≡ b - 65536) where
    pub in_use : i < count w
    in_use = omega (arith, walk_small, node_here (omega arith))

    pub in_room : i < capacity w
    in_room = omega (arith, in_use, walk_holds.laid.laid.within)

    pub whose : 65536 + i ≡ b
    whose = omega (arith, node_here (omega arith))

    hk : k < features P
    hk = omega (arith, q.known)

    up : k ≤ top P b
    up = omega (arith, walk_top)

    abbrev g : Rule
    g = restr P k b f x

    size_here : size P k ≡ size w k
    size_here = plain_size w k (omega (arith, hk, ok_p.laid.laid.few))

    -- it is known already
    pub walked_known : (r : ℕ) → note w i ≡ r + 1 → Walked w w b f x (Some r)
    walked_known r d =
        let m = q.noted.right i in_use (omega arith) in
        let e : note w i - 1 ≡ r = omega arith in
        record { result = mean_result P 0 (restr P 0 b f x) r ok_p (rw (e, whose) at m); noted = q.noted }

    pub loop_start : (l : List ℕ) → length l ≡ 12 → ((u : ℕ) → u < 12 → listed l u ≡ 0) → Filling P P k g 0 l
    loop_start = fill_start P k g ok_p hk

    -- ---- its branches in turn
    module _ (t l : List ℕ) (v : ℕ) (fl : Filling P (plain t) k g v l) (n : Noted t f x) where
      abbrev T : List ℕ
      T = plain t

      abbrev ok_t : Holds T
      ok_t = fl.filled.grown.well

      kept : Kept P T
      kept = fl.filled.grown.kept

      loop_room : Roomy t
      loop_room = room_kept w t q.room kept

      loop_features : features t ≡ features w
      loop_features = sym (plain_features t) ∙ kept_features P T kept ∙ plain_features w

      loop_size : (j : ℕ) → j < features P → size T j ≡ size P j
      loop_size j h = kept_size P T kept ok_p.laid.laid.few j h

      place_t : Place T k b
      place_t = filling_place P k g ok_p hk T v l k b fl (place_at P b f x q.place q.known k up (omega arith))

      loop_next : (c : ℕ) → decode c ≡ next (nodes t) k (decode b) v → decode c ≡ next (nodes T) k (decode b) v
      loop_next c d = let m = like_nodes (plain_like t) (holds_back t ok_t) in rw m d

      pub asks_child : v < size w k → (Place t k b) × (k < features t) × (v < size t k)
      asks_child h = (
        like_place (like_sym (plain_like t)) ok_t k b place_t,
        omega (arith, loop_features, hk, plain_features w),
        omega (arith, size_here, loop_size k hk, plain_size t k (omega (arith, hk, ok_p.laid.laid.few))),
      )

      place_c : (c : ℕ) → decode c ≡ next (nodes t) k (decode b) v → Place T (k + 1) c
      place_c c d = place_next T k b v c place_t (omega (arith, hk, kept_features P T kept)) (loop_next c d)

      known_t : f < features T
      known_t = omega (arith, q.known, kept_features P T kept)

      small_c : (c : ℕ) → decode c ≡ next (nodes t) k (decode b) v → c < 65536 + count T
      small_c c d = good_small T (k + 1) c (place_c c d).good

      pub asks_walk : (c : ℕ) → decode c ≡ next (nodes t) k (decode b) v → Walks t c f x
      asks_walk c d =
          record {
            place = record { holds = ok_t; good = top_good T 0 c (small_c c d) (omega arith); up_to = omega arith };
            known = known_t;
            value = omega (arith, q.value, loop_size f q.known);
            room = loop_room;
            noted = n;
          }

      -- the number of remaining features falls
      pub walk_falls : (c : ℕ) → decode c ≡ next (nodes t) k (decode b) v → features t - top t c < features w - top w b
      walk_falls c d =
          let p = place_c c d in
          let a : top T c ≡ top t c = like_top (plain_like t) (holds_back t ok_t).laid.laid c (omega (arith, small_c c d, plain_count t)) in
          omega (arith, good_top T (k + 1) c p.good p.up_to, loop_features, hk, plain_features w)

      -- the call for branch v answered
      module _ (t' : List ℕ) (c : ℕ) (a : Option ℕ) (h : v < size w k) (d : decode c ≡ next (nodes t) k (decode b) v) (y : Walked t t' c f x a) where
        same_part : (s : List ℕ) → held v g s ≡ restr T (k + 1) c f x s
        same_part = restr_held P b f x q.place q.known k up lt T v c (filling_ext P k g ok_p hk T v l fl) (loop_next c d)

        part : Result T (plain t') (k + 1) (restr T (k + 1) c f x) a
        part = restr_next T (plain t') k c f x a (place_c c d) known_t lt y.result

        pub loop_more : (r : ℕ) → a ≡ Some r → Filling P (plain t') k g (v + 1) (set l v r)
        loop_more r is = fill_more P k g ok_p hk T (plain t') v r l (restr T (k + 1) c f x) a fl (omega (arith, size_here)) same_part part is

        pub loop_stop : a ≡ None → Walked w t' b f x None
        loop_stop is =
            record {
              result = restr_from P b f x q.place q.known k up lt (plain t') None
                  (stop_result P k g ok_p hk (plain t') (fill_stop P k g ok_p hk T (plain t') v l (restr T (k + 1) c f x) a fl (omega (arith, size_here)) same_part part is));
              noted = y.noted;
            }

      -- ---- the node
      module _ (all : v ≡ size w k) where
        full : Filling P T k g (size P k) l
        full = let z : v ≡ size P k = all ∙ sym size_here in rw z at fl

        pub asks_make : (Holds t) × (k < features t) × (Listed t k l)
        asks_make = (
          holds_back t ok_t,
          omega (arith, loop_features, hk, plain_features w),
          like_listed (like_sym (plain_like t)) ok_t k l (omega (arith, hk, kept_features P T kept)) (fill_listed P k g ok_p hk T l full),
        )

        pub made : (t' : List ℕ) (z a : Option ℕ) → z ≡ a → Makes t t' k l z → Walked w t' b f x a
        made t' z a is o =
            let m : Makes t t' k l a = subst (λ (y : Option ℕ). Makes t t' k l y) is o in
            let ok = holds_back t ok_t in
            let y : Makes T (plain t') k l a = plain_makes t t' k l a ok asks_make.1 m in
            record {
              result = restr_from P b f x q.place q.known k up lt (plain t') a (fill_make P k g ok_p hk T (plain t') l a full y);
              noted = noted_grown t t' f x ok_t m.grown.kept ok.laid.laid.within
                  (omega (arith, m.grown.well.laid.laid.within, kept_capacity t t' m.grown.kept))
                  (grown_ext lawful T (plain t') _ ok_t y.grown (make_grows k _ _))
                  n;
            }

  -- ---- the result
  pub walked_room : (t : List ℕ) (a : Option ℕ) → Walked w t b f x a → Roomy t
  walked_room t a y = room_kept w t q.room y.result.grown.kept

  module _ (t : List ℕ) (r : ℕ) (y : Walked w t b f x (Some r)) where
    okt : Holds (plain t)
    okt = y.result.grown.well

    meant : Mean (nodes (plain t)) 0 (sizes (plain t)) (decode r) (restr P 0 b f x)
    meant =
        let s = kept_sizes P (plain t) y.result.grown.kept ok_p.laid.laid.few in
        rw s (result_mean P (plain t) 0 (restr P 0 b f x) r ok_p y.result)

    pub walked_small : r < 131072
    walked_small = omega (arith, good_small (plain t) 0 r meant.ok, okt.laid.laid.within, okt.laid.laid.most)

    room : Roomy t
    room = walked_room t (Some r) y

    walked_within : (count w ≤ count t) × (count t ≤ capacity t)
    walked_within = (
      omega (arith, ext_le (result_ext P (plain t) 0 (restr P 0 b f x) (Some r) ok_p y.result), length_nodes P, length_nodes (plain t), plain_count w, plain_count t),
      (holds_back t okt).laid.laid.within,
    )

    module _ (i : ℕ) (h : i < count w) (whose : 65536 + i ≡ b) where
      pub walked_in : i < capacity t
      walked_in = omega (arith, walked_within.0, walked_within.1)

      pub walked_put : Walked w (set t (note_at t i) (r + 1)) b f x (Some r)
      walked_put =
          let e : plain (set t (note_at t i) (r + 1)) ≡ plain t = put_plain t i (r + 1) room walked_in in
          let x' = result_ext P (plain t) 0 (restr P 0 b f x) (Some r) ok_p y.result in
          record {
            result = rw e y.result;
            noted = noted_put t i r f x room walked_within.1 (omega (arith, walked_within.0)) y.noted
                (record {
                  ok = meant.ok;
                  says = λ s h. meant.says s h ∙ rw whose (sym (value_ext (sizes P) (nodes P) (nodes (plain t)) 0 (decode b) (set s (f - 0) x) ok_p.wf x' q.place.good));
                });
          }

-- ---- the whole: from a table at rest, and with the notes taken away
pub holding_walks : (w : List ℕ) (b f x : ℕ) → Holding w b f x → Walks w b f x
holding_walks w b f x h =
    let d = h.holds.laid.laid in
    record {
      place = like_place (plain_like w) h.holds 0 b (record { holds = h.holds; good = h.good; up_to = omega arith });
      known = omega (arith, h.known, plain_features w);
      value = omega (arith, h.value, plain_size w f (omega (arith, h.known, d.few)));
      room = record { room = h.room; most = d.most };
      noted = noted_none w f x d.within h.rest;
    }

pub walked_asks : (w t : List ℕ) (b f x : ℕ) (a : Option ℕ) → Walks w b f x → Walked w t b f x a → (Roomy t) × (count t ≤ capacity t) × (Only t 0 (count t))
walked_asks w t b f x a q y = (walked_room w b f x q t a y, (holds_back t y.result.grown.well).laid.laid.within, y.noted.only)

pub walked_result : (w t : List ℕ) (b f x : ℕ) (a : Option ℕ) → Holding w b f x → Walked w t b f x a → Result w (plain t) 0 (restr w 0 b f x) a
walked_result w t b f x a h y = subst (λ (u : List ℕ). Result u (plain t) 0 (restr u 0 b f x) a) (plain_of w h.rest) y.result
