-- A sound cost table is the picture of its costs, and every picture of costs in range is a sound table. Assumes nothing.
use mathlib.Core.Path.{◌≡◌, sym, ap, ap₂, subst, ◌∙◌}
use mathlib.Core.List.{List, ◌∷◌}
use Prim.Native.Nat.{ℕ, suc, ◌+◌, ◌≤◌, ◌<◌}
use native.Mathlib.Omega.{arith}
use lib.IntN.{ℤ, ◌+ℤ◌, +ℤ_idr}
use lib.ListN.{length, get_or, drop, get_or-eq_default}
use lib.Seq.{drop-cons}
use Rattle.theory.specs.Settings.{Pos, Valid, zeros}
use Rattle.theory.specs.Functions.{Agree, zero_fun}
use Rattle.theory.specs.Diagrams.{Branch, Node, Target, at, blank, leaf, node}
use Rattle.theory.specs.WellFormed.{Under, WellFormed}
use Rattle.theory.specs.Build.{table}
use Rattle.theory.specs.Walk.{Tidy}
use Rattle.theory.specs.Costs.{Cost, costs}
use Rattle.theory.proofs.Lists.{pos_drop}
use Rattle.theory.proofs.Ranges.{features_pos, zeros_valid}
use Rattle.theory.proofs.Tables.{table_mean, table_wf}
use Rattle.theory.proofs.Values.{value_split}
use Rattle.theory_costs.specs.Narrow.{Narrow}
use Rattle.theory_costs.proofs.Bounds as B
use Rattle.theory_costs.proofs.Narrow.{table_narrow}
use Rattle.theory_costs.proofs.Relative.{from_zeros}
use Rattle.theory_costs.proofs.Spreads.{within_spread}
use Rattle.theory_costs.proofs.Words.{int_one}
use Rattle.table_words.specs.Words.{kind}
use Rattle.table_words.proofs.Words.{at_sizes}
use Rattle.cost_words.specs.Words.{target_word}
use Rattle.cost_words.specs.Table.{goes_of, added_of, body_of, cost_table}
use Rattle.cost_words.specs.Picture.{Pictures, Proper, IsTable}
use Rattle.cost_words.proofs.Packing.{int_zero, word_branch, packed_goes, packed_added}
use Rattle.cost_words.proofs.Reading.{length_nodes, at_nodes, branch_at_lem, at_costs}
use Rattle.cost_words.proofs.Pairing.{spared_pairs}
use Rattle.cost_words.proofs.Showing.{Small, body_says, root_shows, base_shows, added_past}
use Rattle.table_checks.proofs.Pictures as C
use Rattle.table_checks.proofs.Pictures.{Tested}
use Rattle.cost_words.proofs.Regular.{regular}
use Rattle.cost_sound.proofs.Reading.{sound_shaped, shaped_tested, tested_header, sizes_pos, ranged_narrow}
use Rattle.promises.specs.Integers.{Fit, bias, int}
use Rattle.promises.specs.Range.{Within, add_most, cost_most}
use Rattle.promises.specs.Words.{head, capacity, size, count, sizes, feature, body}
use Rattle.promises.specs.CostWords.{cost_branch as branch, added, Padded, cost_node_list as nodes, root_at, cost_roots as roots, cost_of, costs_of}
use Rattle.promises.specs.CostSound.{Ranged, CostSound as Sound}

-- ---- a sound table is tested, and a tested table of costs in range is sound
pub sound_tested : {w : List ℕ} → Sound w → Tested cost_table w
sound_tested s = shaped_tested (sound_shaped s) s.paired

-- the integers that the branches of a narrow node list add
adds_fit : (S : List ℕ) (N : List (Node costs)) → Pos S → WellFormed S N → Narrow add_most S N → (i v : ℕ) → i < length N → v < length (at N i).branches → Fit add_most (get_or (at N i).branches v blank).adds
adds_fit S N p wf nr i v h hv =
    let f = wf.fits i h in
    let d : drop (at N i).feature S ≡ get_or S (at N i).feature 0 ∷ drop (suc (at N i).feature) S = drop-cons S (at N i).feature 0 f.known in
    B.node_fits S N wf nr i h (get_or S (at N i).feature 0) (drop (suc (at N i).feature) S) d (subst Pos d (pos_drop (at N i).feature S p)) v (omega (arith, f.full))

tested_sound : {w : List ℕ} → Tested cost_table w → Ranged w → Sound w
unfolding roots
tested_sound {w} t r =
    record {
      header = tested_header t;
      nodes_ok = record {
        each = λ i h. let n = t.nodes_ok i h in record {
          known = n.known;
          lower = record { lower = n.lower };
          adds = record { level = zero_added i h; fits = fits i h };
          differ = λ a. n.differ (λ v hv. ap₂ branch (a.targets v hv) (a.addeds v hv ∙ sym (zero_added i h)));
          padded = n.padded;
        };
      };
      chained = t.chained;
      roots_ok = record { rooted = t.roots_ok };
      in_order = t.in_order;
      paired = spared_pairs w (sizes_pos (tested_header t)) (C.tested_wf regular t) (ranged_narrow t r) t.spared;
      ranged = r;
    }
  where
    zero_added : (i : ℕ) → i < count w → added (body w i) 0 ≡ bias
    zero_added i h = int_one (added (body w i) 0) bias ((t.nodes_ok i h).level ∙ sym int_zero)

    fits : (i : ℕ) → i < count w → (v : ℕ) → v < size w (feature w i) → Fit add_most (int (added (body w i) v))
    fits i h v hv =
        let l : i < length (nodes w) = omega (arith, length_nodes w) in
        let wf : WellFormed (sizes w) (nodes w) = C.tested_wf regular t in
        let e : length (at (nodes w) i).branches ≡ size w (feature w i) =
        (wf.fits i l).full ∙ ap (λ (x : Node costs). get_or (sizes w) x.feature 0) (at_nodes w i h) ∙ at_sizes w (feature w i) (t.nodes_ok i h).known in
        subst (λ (b : Branch costs). Fit add_most b.adds) (branch_at_lem w i v h hv)
        (adds_fit (sizes w) (nodes w) (sizes_pos (tested_header t)) wf (ranged_narrow t r) i v l (omega arith))

-- THEOREM: the kind word is 2, that of a sound rule table 1
pub sound_kind : {w : List ℕ} → Sound w → kind w ≡ 2
sound_kind s = s.header.kind

-- ---- THEOREMS: a sound table's roots and nodes are those of its costs in turn, its words their picture
pub sound_tidy : {w : List ℕ} → Sound w → Tidy (sizes w) (roots w) (nodes w)
unfolding roots
sound_tidy s = C.tested_tidy regular (sound_tested s)

pub sound_table : {w : List ℕ} → Sound w → table (sizes w) (costs_of w) ≡ (roots w, nodes w)
unfolding roots
sound_table s = C.tested_table regular (sound_tested s)

pub sound_pictures : {w : List ℕ} → Sound w → Pictures (capacity w) (sizes w) (costs_of w) w
sound_pictures s = C.tested_pictures regular (sound_tested s)

pub sound_proper : {w : List ℕ} → Sound w → Proper (capacity w) (sizes w) (costs_of w)
sound_proper {w} s =
    C.tested_proper regular (sound_tested s) (λ p h t x. subst (λ (g : Cost). Fit cost_most (g t).off) (sym (at_costs w p h)) ((s.ranged.ranged p h).fits t x)) tt

pub sound_is : {w : List ℕ} → Sound w → IsTable w
sound_is {w} s = record { cap = capacity w; sizes = sizes w; places = costs_of w; proper = sound_proper s; pictures = sound_pictures s }

-- the nodes of a sound table are narrow
pub sound_narrow : {w : List ℕ} → Sound w → Narrow add_most (sizes w) (nodes w)
sound_narrow s = ranged_narrow (sound_tested s) s.ranged

-- ---- a picture is a sound table
under_small : (N : List (Node costs)) (m k : ℕ) (t : Target costs) → m ≤ 4096 → Under N m k t → target_word t < 65536
under_small N m k (leaf e) h u = omega arith
under_small N m k (node j) h u = omega (arith, u.0)

module _ {cap : ℕ} {S : List ℕ} {gs : List Cost} {w : List ℕ} (p : Proper cap S gs) (d : Pictures cap S gs w) where
  abbrev R : List (Branch costs)
  R = (table S gs).0

  abbrev N : List (Node costs)
  N = (table S gs).1

  pos_S : Pos S
  pos_S = features_pos S p.list

  wf : WellFormed S N
  wf = table_wf S gs

  ranged : (q : ℕ) → q < length gs → Within cost_most S (get_or gs q zero_fun)
  ranged q h = let l : q < 16 = omega (arith, p.places) in record { fits = λ t x. p.range q l t x }

  narrow : Narrow add_most S N
  narrow = table_narrow S gs (λ q h. within_spread {B = cost_most} (ranged q h))

  small : (i : ℕ) → i < length N → Small (at N i)
  small i h =
      record {
        to = λ v hv. under_small N i (suc (at N i).feature) (get_or (at N i).branches v blank).to (omega (arith, p.fits, p.most)) ((wf.fits i h).lower v);
        adds = λ v hv. omega (arith, (adds_fit S N pos_S wf narrow i v h hv).bottom);
      }

  arms : (i v : ℕ) → i < length N → v < length (at N i).branches → cost_table.arm (body_of (at N i)) v ≡ get_or (at N i).branches v blank
  arms i v h hv = body_says (at N i) (small i h) v hv (omega (arith, C.shown_size regular p d i h))

  pads : (i : ℕ) → i < length N → Padded (length (at N i).branches) (body_of (at N i))
  pads i h =
      record {
        targets = λ v l hv. packed_goes (goes_of (at N i)) (added_of (at N i)) (small i h).to v hv
            ∙ ap (λ (b : Branch costs). target_word b.to) (get_or-eq_default (at N i).branches blank l);
        addeds = λ v l hv. packed_added (goes_of (at N i)) (added_of (at N i)) v ∙ added_past (at N i) v l;
      }

  -- a place's base is its cost where all values are 0
  base_fits : (q : ℕ) → q < 16 → Fit cost_most (get_or R q blank).adds
  base_fits q h =
      let m = table_mean S gs q (omega (arith, p.places)) in
      subst (Fit cost_most)
      (ap (λ x. x.off) (sym (m.says (zeros S) (zeros_valid S pos_S)) ∙ value_split N 0 (get_or R q blank) (zeros S))
      ∙ ap (λ (z : ℤ). (get_or R q blank).adds +ℤ z) (from_zeros N 0 S wf S (get_or R q blank).to m.ok) ∙ +ℤ_idr (get_or R q blank).adds)
      (p.range q h (zeros S) (zeros_valid S pos_S))

  tops : (q : ℕ) → q < 16 → root_at w q ≡ get_or R q blank
  tops q h =
      let e : 48 + q ≡ 32 + (16 + q) = omega arith in
      ap₂ branch (d.roots_are q (omega arith) ∙ root_shows R q h) (ap (head w) e ∙ d.roots_are (16 + q) (omega arith) ∙ base_shows R q)
      ∙ word_branch (get_or R q blank) (omega (arith, (base_fits q h).bottom))

  -- THEOREM: what the words say are the capacity, the feature list and the costs that they picture
  pub picture_costs : (capacity w ≡ cap) × (sizes w ≡ S) × ((q : ℕ) → q < 16 → Agree S (get_or (costs_of w) q zero_fun) (get_or gs q zero_fun))
  picture_costs = C.picture_said regular p d arms pads tops

  -- THEOREM
  pub picture_sound : Sound w
  picture_sound = tested_sound (C.picture_tested regular p d arms pads tops) (record { ranged = λ q h. record { fits = λ t x. in_range q h t x } })
    where
      in_range : (q : ℕ) → q < 16 → (t : List ℕ) → Valid (sizes w) t → Fit cost_most (cost_of w q t).off
      in_range q h t x =
          let y : Valid S t = subst (λ (l : List ℕ). Valid l t) picture_costs.1 x in
          subst (λ (g : Cost). Fit cost_most (g t).off) (at_costs w q h) (subst (λ a. Fit cost_most a.off) (sym (picture_costs.2 q h t y)) (p.range q h t y))

pub is_sound : {w : List ℕ} → IsTable w → Sound w
is_sound t = picture_sound t.proper t.pictures
