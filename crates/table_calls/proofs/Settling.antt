-- The end of every call that builds, for every kind: what was built and settled is written, or the table is as it was. Assumes nothing.
use mathlib.Core.Path.{◌≡◌, refl, sym, ap, subst, ◌∙◌}
use mathlib.Core.Logic.{⊎_elim}
use mathlib.Core.List.{List, [], ◌∷◌, ◌++◌, map}
use mathlib.Core.Option.{Option, none, some}
use Prim.Native.Nat.{ℕ, ◌+◌, ◌*◌, ◌≤◌, ◌<◌}
use native.Mathlib.Omega.{arith}
use lib.ListN.{length, get_or, length-map}
use lib.Seq.{sets, length-sets}
use Rattle.theory.specs.Build.{Ext, build, each, table}
use Rattle.theory.specs.Diagrams.{Branch, Node, blank, meaning}
use Rattle.theory.specs.Functions.{Agree, Fun, zero_fun}
use Rattle.theory.specs.Kind.{Kind}
use Rattle.theory.specs.Settings.{FeatureList, Pos}
use Rattle.theory.specs.Tally.{tally}
use Rattle.theory.proofs.Growing.{each_append, ext_trans}
use Rattle.theory.proofs.Lists.{get_or_map_in}
use Rattle.theory.proofs.Rests.{nodes_tally}
use Rattle.theory.proofs.Tables.{table_agree}
use Rattle.theory.proofs.Values.{value_ext}
use Rattle.theory.proofs.WellFormed.{ok_ext}
use Rattle.settings.proofs.Endings.{pass, not_taken, not_refused}
use Rattle.settings.specs.Refusals.{Outcome}
use Rattle.table_words.specs.Table.{Table, Regular, nodes, fun_at}
use Rattle.table_words.specs.Holding.{Layout, Lawful, Holds, Grown, Result, Results, built_all}
use Rattle.table_words.specs.Picture.{Pictures, Shows, Proper, Becomes}
use Rattle.table_words.specs.Words.{Kept}
use Rattle.table_words.proofs.Filling.{grown_ext}
use Rattle.table_words.proofs.Reading.{length_said, at_said}
use Rattle.table_words.proofs.Several.{all_ext, results_none, results_more, results_stop, results_long, results_mean}
use Rattle.table_words.proofs.Stores.{Where, before, within, behind, where_decided, sets_before, sets_behind, sets_within}
use Rattle.table_words.proofs.Tab.{split, length_tab, get_or_tab, tab_ext}
use Rattle.table_words.proofs.Words.{kept_features, kept_capacity, kept_sizes}
use Rattle.table_records.specs.Changes.{Rolled}
use Rattle.table_records.specs.Laid.{Laid}
use Rattle.table_records.specs.Nodes.{layout_of}
use Rattle.table_records.proofs.Making.{lawful}
use Rattle.table_records.proofs.Restoring.{undo_asks, undo}
use Rattle.table_checks.proofs.Pictures.{Tested, tested_wf, tested_root, tested_list, tested_table}
use Rattle.table_sweep.specs.Tidy.{Begun, Untidy}
use Rattle.table_calls.specs.Writing.{Agrees, Exceeds, Puts, Settled, alone}
use Rattle.table_calls.proofs.Sounding.{tested_pos, tested_holds, tested_begun}
use Rattle.table_calls.proofs.Theorems.{one_agrees}
use Rattle.promises.specs.Tab.{tab}
use Rattle.promises.specs.Words.{head, capacity, features, sizes, count, bound, Zeros}

-- ROOM: the results built in turn onto the nodes of gs have as many nodes as there are distinct rests of gs with those of the results
room_all : {K : Kind} (S : List ℕ) → Pos S → (gs hs : List (Fun K)) → length (each (build 0 S) hs (table S gs).1).1 ≡ tally S (gs ++ hs)
room_all {K} S pos gs hs = sym (ap (λ (q : List (Branch K) × List (Node K)). length q.1) (each_append (build 0 S) gs hs [])) ∙ nodes_tally S pos (gs ++ hs)

-- one function is a list of one
one_result : {K : Kind} {Y : Layout K} (L : Lawful Y) (w t : List ℕ) → Holds Y w → (g : Fun K) (a : Option (Branch K)) → Result Y w t 0 g a → Results Y w t (g ∷ []) (alone a)
one_result L w t ok g (some b) r = results_more L w w t ok [] [] (results_none L w ok) g b r
one_result L w t ok g none r = results_stop L w w t ok [] [] (results_none L w ok) g [] r

module _ {K : Kind} {T : Table K} (L : Regular T) where
  -- the nodes after building are as many as the distinct rests of all places before the call with those of the results
  built_tally : {w : List ℕ} (gs hs : List (Fun K)) → Tested T w → Agrees (sizes w) gs hs → length (built_all (layout_of T) w gs).1 ≡ tally (sizes w) (T.said w ++ hs)
  unfolding built_all
  built_tally {w} gs hs s e =
      ap (λ (q : List (Branch K) × List (Node K)). length q.1) (table_agree (sizes w) gs hs e.long e.each (nodes T w))
      ∙ sym (ap (λ (q : List (Branch K) × List (Node K)). length (each (build 0 (sizes w)) hs q.1).1) (tested_table L s))
      ∙ room_all (sizes w) (tested_pos L s) (T.said w) hs

  -- functions that agree exceed a table's room together
  pub exceeds_agree : {w : List ℕ} {g h : Fun K} → Tested T w → Agree (sizes w) g h → Exceeds T w (g ∷ []) → Exceeds T w (h ∷ [])
  exceeds_agree {w} {g} {h} s e x =
      omega (arith, built_tally (g ∷ []) (h ∷ []) s (one_agrees (sizes w) g h e), built_tally (g ∷ []) (g ∷ []) s (one_agrees (sizes w) g g (λ t v. refl)))

  -- ---- the table t that grew from the tested table w to the nodes N
  module _ {w t : List ℕ} {N : List (Node K)} (s : Tested T w) (gr : Grown (layout_of T) w t N) (ex : Ext (nodes T w) N) where
    abbrev kept : Kept w t
    kept = gr.kept

    cap_same : capacity t ≡ capacity w
    cap_same = kept_capacity w t kept

    pub sizes_same : sizes t ≡ sizes w
    sizes_same = kept_sizes w t kept s.header.front.few

    ext : Ext (nodes T w) (nodes T t)
    ext = grown_ext (lawful T) w t N (tested_holds L s) gr ex

    root_same : (p : ℕ) → p < T.places → T.root_at t p ≡ T.root_at w p
    root_same p h = L.places w t (λ q l. kept.header (32 + q) (omega arith) (omega arith)) p h

    -- zero words of the header stay
    zeros_kept : (x y : ℕ) → y ≤ 4096 → ((j : ℕ) → x ≤ j → j < y → j ≡ 19 → ⊥) → Zeros w x y → Zeros t x y
    unfolding head
    zeros_kept x y h n z = record { zeros = λ j a b. kept.header j (omega arith) (n j a b) ∙ z.zeros j a b }

    -- the words past the nodes are 0: the near ones as the records are laid, the far ones as they were
    clean_kept : Zeros t (8192 + 16 * count t) (bound (capacity t))
    clean_kept = record {
      zeros = λ j h l. ⊎_elim
          (gr.well.laid.laid.clean j h)
          (λ f. kept.past j (omega (arith, cap_same)) ∙ s.header.clean.zeros j (omega (arith, cap_same, s.header.front.within)) (omega (arith, cap_same)))
          (split j (8192 + 16 * capacity t));
    }

    -- the functions of all places are as they were
    pub places_kept : (p : ℕ) → p < T.places → Agree (sizes w) (fun_at T t p) (fun_at T w p)
    places_kept p h x v =
        ap (λ (b : Branch K). meaning (nodes T t) b x) (root_same p h)
        ∙ value_ext (sizes w) (nodes T w) (nodes T t) 0 (T.root_at w p) x (tested_wf L s) ext (tested_root L s p h)

    -- building only adds nodes and sets no root: the first p places and the front of the nodes are those of their functions built in turn
    grown_table : (p : ℕ) → p ≤ T.places → table (sizes t) (tab (fun_at T t) p) ≡ table (sizes w) (tab (fun_at T w) p)
    grown_table p l =
        ap (λ (S : List ℕ). table S (tab (fun_at T t) p)) sizes_same
        ∙ table_agree (sizes w) (tab (fun_at T t) p) (tab (fun_at T w) p) (length_tab (fun_at T t) p ∙ sym (length_tab (fun_at T w) p))
        (λ q h x v.
        let g : q < p = omega (arith, length_tab (fun_at T t) p) in
        ap (λ (f : Fun K). f x) (get_or_tab (fun_at T t) p q zero_fun g) ∙ places_kept q (omega arith) x v ∙ sym (ap (λ (f : Fun K). f x) (get_or_tab (fun_at T w) p q zero_fun g)))
        []

    grown_begun : (p : ℕ) → p ≤ T.places → Begun T p t
    grown_begun p l =
        let b = tested_begun L s p l in
        record {
          roots = ap (λ (q : List (Branch K) × List (Node K)). q.0) (grown_table p l) ∙ b.roots ∙ sym (tab_ext (T.root_at t) (T.root_at w) p (λ q h. root_same q (omega arith)));
          front = subst (λ (M : List (Node K)). Ext M (nodes T t)) (sym (ap (λ (q : List (Branch K) × List (Node K)). q.1) (grown_table p l))) (ext_trans b.front ext);
        }

    -- place p may be replaced
    pub grown_untidy : (p : ℕ) → p ≤ T.places → Untidy T p t
    grown_untidy p l =
        let h = s.header in
        record {
          room = omega (arith, kept.long, cap_same, h.front.room);
          some = omega (arith, cap_same, h.front.some);
          most = omega (arith, cap_same, h.front.most);
          kind_is = kept.header 0 (omega arith) (omega arith) ∙ h.front.kind;
          list = subst FeatureList (sym sizes_same) (tested_list L s);
          past_sizes = zeros_kept (3 + features t) 19 (omega arith) (λ j x y e. omega arith) (subst (λ (n : ℕ). Zeros w (3 + n) 19) (sym (kept_features w t kept)) h.past);
          within = gr.well.laid.laid.within;
          shares = λ j g. kept.header (20 + j) (omega arith) (omega arith) ∙ h.shares j g;
          unused = zeros_kept 22 32 (omega arith) (λ j x y e. omega arith) h.unused;
          middle = zeros_kept 64 4096 (omega arith) (λ j x y e. omega arith) h.middle;
          clean = clean_kept;
          wf = gr.well.wf;
          spared = gr.well.laid.spared;
          padded = gr.well.laid.padded;
          links = gr.well.laid.laid.links;
          heads = gr.well.laid.laid.heads;
          rooted = λ q g. rw (root_same q g) (ok_ext (nodes T w) (nodes T t) 0 (T.root_at w q) ext (tested_root L s q g));
          begun = grown_begun p l;
        }

    -- `roll_back` may be asked
    pub none_asks : {n : ℕ} → n ≡ count w → (Laid t) × (n ≤ count t)
    none_asks e = (gr.well.laid.laid, omega (arith, undo_asks L w t N (tested_holds L s) gr ex))

  -- ---- what a settled call leaves
  module _ {w t : List ℕ} (gs : List (Fun K)) {bs : List (Branch K)} (s : Tested T w) (r : Results (layout_of T) w t gs (some bs)) (p : ℕ) (hp : p + length gs ≤ T.places)
      (hs : List (Fun K)) (e : Agrees (sizes w) gs hs) where
    says : List (Fun K)
    says = map (meaning (nodes T t)) bs

    bs_long : length bs ≡ length gs
    bs_long = results_long (lawful T) w t (tested_holds L s) gs bs r

    says_long : length says ≡ length gs
    unfolding says
    says_long = length-map bs (meaning (nodes T t)) ∙ bs_long

    after : List (Fun K)
    after = sets (T.said t) p says

    wanted : List (Fun K)
    wanted = sets (T.said w) p hs

    after_long : length after ≡ T.places
    unfolding after
    after_long = length-sets (T.said t) p says ∙ length_said L t

    wanted_long : length wanted ≡ T.places
    unfolding wanted
    wanted_long = length-sets (T.said w) p hs ∙ length_said L w

    -- a place outside the run is as it was
    outside : (q : ℕ) → q < T.places → get_or after q zero_fun ≡ get_or (T.said t) q zero_fun → get_or wanted q zero_fun ≡ get_or (T.said w) q zero_fun
        → Agree (sizes w) (get_or after q zero_fun) (get_or wanted q zero_fun)
    outside q hq a b x v =
        ap (λ (f : Fun K). f x) (a ∙ at_said L t q hq)
        ∙ places_kept s r.grown (all_ext (lawful T) w gs) q hq x v
        ∙ ap (λ (f : Fun K). f x) (sym (b ∙ at_said L w q hq))

    -- place i of the run has what branch i means
    inside : (i : ℕ) → i < length gs → Agree (sizes w) (get_or after (p + i) zero_fun) (get_or wanted (p + i) zero_fun)
    unfolding after wanted says
    inside i hi x v =
        ap (λ (f : Fun K). f x) (sets_within zero_fun says (T.said t) p i (omega (arith, says_long)) (omega (arith, says_long, length_said L t))
        ∙ get_or_map_in (meaning (nodes T t)) blank zero_fun bs i (omega (arith, bs_long)))
        ∙ (results_mean (lawful T) w t (tested_holds L s) gs bs r i hi).says x v
        ∙ e.each i hi x v
        ∙ ap (λ (f : Fun K). f x) (sym (sets_within zero_fun hs (T.said w) p i (omega (arith, e.long)) (omega (arith, e.long, length_said L w))))

    -- place by place the functions are those that are wanted: before the run, in it, after it
    place_agrees : (q : ℕ) → q < T.places → Agree (sizes w) (get_or after q zero_fun) (get_or wanted q zero_fun)
    unfolding after wanted
    place_agrees q hq = go (where_decided p (length gs) q)
      where
        go : Where p (length gs) q → Agree (sizes w) (get_or after q zero_fun) (get_or wanted q zero_fun)
        go (before h) = outside q hq (sets_before zero_fun says (T.said t) p q h) (sets_before zero_fun hs (T.said w) p q h)
        go (within i h c) = subst (λ (j : ℕ). Agree (sizes w) (get_or after j zero_fun) (get_or wanted j zero_fun)) c (inside i h)
        go (behind h) = outside q hq (sets_behind zero_fun says (T.said t) p q (omega (arith, says_long))) (sets_behind zero_fun hs (T.said w) p q (omega (arith, e.long)))

    one_table : table (sizes w) after ≡ table (sizes w) wanted
    one_table = table_agree (sizes w) after wanted (after_long ∙ sym wanted_long) (λ q l. place_agrees q (omega (arith, after_long))) []

    cap_is : capacity t ≡ capacity w
    cap_is = cap_same s r.grown (all_ext (lawful T) w gs)

    sizes_are : sizes t ≡ sizes w
    sizes_are = sizes_same s r.grown (all_ext (lawful T) w gs)

    -- the table's own words for capacity and sizes
    proper_kept : Proper T (capacity t) (sizes t) after → Proper T (capacity w) (sizes w) after
    proper_kept d = subst (λ (S : List ℕ). Proper T (capacity w) S after) sizes_are (subst (λ (c : ℕ). Proper T c (sizes t) after) cap_is d)

    wanted_proper : Proper T (capacity w) (sizes w) after → Proper T (capacity w) (sizes w) wanted
    unfolding wanted
    wanted_proper d = record {
      some = d.some;
      most = d.most;
      list = d.list;
      places = wanted_long;
      range = λ q hq x v. subst T.InRange (place_agrees q hq x v) (d.range q hq x v);
      fits = subst (λ (y : List (Branch K) × List (Node K)). length y.1 ≤ capacity w) one_table d.fits;
      shared = L.shared (capacity w) (sizes w) after wanted (after_long ∙ sym wanted_long) (λ q l. place_agrees q (omega (arith, after_long))) d.shared;
    }

    wanted_pictures : (u : List ℕ) → Pictures T (capacity t) (sizes t) after u → Pictures T (capacity w) (sizes w) wanted u
    wanted_pictures u d =
        subst (λ (y : List (Branch K) × List (Node K)). Shows T (capacity w) (sizes w) y.0 y.1 u) one_table
        (subst (λ (S : List ℕ). Pictures T (capacity w) S after u) sizes_are (subst (λ (c : ℕ). Pictures T c (sizes t) after u) cap_is d))

    becomes_kept : (u : List ℕ) → Becomes T p (map (meaning (nodes T t)) bs) t u → Becomes T p hs w u
    unfolding after wanted says
    becomes_kept u d =
        record {
          long = d.long ∙ r.grown.kept.long;
          proper = wanted_proper (proper_kept d.proper);
          pictures = wanted_pictures u d.pictures;
          past = λ j l. d.past j (omega (arith, cap_is)) ∙ r.grown.kept.past j (omega (arith, cap_is));
        }

  -- THE LAW of every call that builds: NO ROOM exactly where the rests of all exceed the capacity, and then nothing is changed; else all are written
  pub settles_all : {w t t' : List ℕ} {p n : ℕ} {o : Outcome} (gs : List (Fun K)) (a : Option (List (Branch K))) → Tested T w → Results (layout_of T) w t gs a → p + length gs ≤ T.places
      → n ≡ count w → Settled T p n t t' a o → Puts T p gs w t' o
  settles_all {w} {t} {t'} {p} gs (some bs) s r hp e d = record {
    puts = λ hs c.
        record {
          ends = pass (λ over. omega (arith, r.answers.1, built_tally gs hs s c)) d.0;
          becomes = λ q. becomes_kept gs s r p hp hs c t' d.1;
          refused = λ x q. not_refused (sym d.0 ∙ q);
        };
  }
  settles_all {w} {t} {t'} {p} gs none s r hp e d = record {
    puts = λ hs c.
        record {
          ends = (λ over. d.0, λ fits. absurd (fits (omega (arith, r.answers, built_tally gs hs s c))));
          becomes = λ q. not_taken (sym d.0 ∙ q);
          refused = λ x q. undo L w t (built_all (layout_of T) w gs).1 (tested_holds L s) r.grown (all_ext (lawful T) w gs) t' (subst (Rolled t t') e d.1);
        };
  }

  -- one function
  pub settles : {w t t' : List ℕ} {p n : ℕ} {o : Outcome} (g : Fun K) (a : Option (Branch K)) → Tested T w → Result (layout_of T) w t 0 g a → p < T.places → n ≡ count w
      → Settled T p n t t' (alone a) o → Puts T p (g ∷ []) w t' o
  settles {w} {t} g a s r hp e d = settles_all (g ∷ []) (alone a) s (one_result (lawful T) w t (tested_holds L s) g a r) (omega arith) e d
