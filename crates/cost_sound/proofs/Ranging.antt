-- The test of the pairs and of the range, step by step: a node's own, the nodes in turn, the places. Assumes nothing.
use Rattle.std.specs.Prelude.{None}
use mathlib.Core.Path.{◌≡◌, sym, ap, subst, ◌∙◌}
use mathlib.Core.Bool.{Bool, true, false}
use mathlib.Core.Logic.{◌↔◌}
use mathlib.Core.List.{List, ◌∷◌}
use Prim.Native.Nat.{ℕ, suc, ◌+◌, ◌≤◌, ◌<◌}
use native.Mathlib.Nat.{le_refl}
use native.Mathlib.Omega.{arith}
use native.Mathlib.Decide.{ℕ_discrete}
use borrow.Author.Tests.{eq-eqb, ne_eqb}
use lib.Dec.{eqb}
use lib.IntN.{ℤ, ◌+ℤ◌}
use lib.ListN.{length, get_or, drop}
use lib.Seq.{drop-cons}
use Rattle.theory.specs.Diagrams.{Branch, Node, at, blank}
use Rattle.theory.specs.Settings.{Pos}
use Rattle.theory.specs.WellFormed.{Ok, WellFormed}
use Rattle.theory.specs.Costs.{costs}
use Rattle.theory.proofs.Lists.{pos_drop}
use Rattle.theory_costs.specs.Extremes.{along, kept_at, own, Passed}
use Rattle.theory_costs.proofs.Extremes.{across_ext}
use Rattle.theory_costs.proofs.Integers.{rise_near, fall_near}
use Rattle.theory_costs.proofs.Passing.{along_fits, place_extreme}
use Rattle.theory_costs.proofs.Range.{within_exactly}
use Rattle.theory_costs.proofs.Words.{int_one, words_sum}
use Rattle.table_words.specs.Words.{listed}
use Rattle.table_words.proofs.Words.{length_sizes, at_sizes}
use Rattle.cost_words.specs.Sides.{end_of, Keeps, arm_sum, Sides}
use Rattle.cost_words.specs.declared.sides.Span.{Span}
use Rattle.cost_words.proofs.Regular.{regular}
use Rattle.cost_words.proofs.Pairing.{pairs_passed, passed_pairs}
use Rattle.cost_words.proofs.Summing.{way}
use Rattle.cost_words.proofs.Reading.{length_nodes, at_nodes, branch_at_lem}
use Rattle.table_checks.proofs.Pictures.{Tested}
use Rattle.table_checks.proofs.Sitting.{sits_good}
use Rattle.cost_sound.specs.Paired.{Shaped, Passes, Owns}
use Rattle.cost_words.specs.Table.{cost_table}
use Rattle.cost_sound.proofs.Reading.{sound_shaped, shaped_tested, shaped_wf, sizes_pos, ranged_narrow}
use Rattle.promises.specs.Integers.{rise, fall, Fit, int}
use Rattle.promises.specs.Range.{Within, add_most, cost_most}
use Rattle.promises.specs.CostSound.{across, extreme, kept, Pairs, side_of, CostSound as Sound}
use Rattle.promises.specs.Words.{features, size, count, sizes, feature, body, word}
use Rattle.promises.specs.CostWords.{target, cost_branch as branch, goes, added, cost_node_list as nodes, cost_root as root, cost_base as base, root_at, cost_of}

-- a comparison for equality as such a test
pub passes_equal : (w : List ℕ) (P : Type 0) (a b : ℕ) → (a ≡ b → P) → ((a ≡ b → ⊥) → Sound w → ⊥) → Passes (eqb a b) w P
passes_equal w P a b f g = go (ℕ_discrete a b)
  where
    go : Dec (a ≡ b) → Passes (eqb a b) w P
    go (yes h) = subst (λ (x : Bool). Passes x w P) (sym (eq-eqb a b h)) (f h)
    go (no h) = subst (λ (x : Bool). Passes x w P) (sym (ne_eqb a b h)) (g h)

-- what is kept in a sound table is each node's own
sound_tested : {w : List ℕ} → Sound w → Tested cost_table w
sound_tested s = shaped_tested (sound_shaped s) s.paired

sound_passed : {w : List ℕ} → Sound w → (up : Bool) → Passed (side_of up) (nodes w) (length (nodes w)) (kept up w)
sound_passed {w} s = pairs_passed w (sizes_pos s.header) (shaped_wf (sound_shaped s)) s.paired

module _ {w : List ℕ} (s : Shaped w) where
  wf : WellFormed (sizes w) (nodes w)
  wf = shaped_wf s

  -- ---- node i with its body l of m branches
  module _ (i m : ℕ) (l : List ℕ) (h : i < count w) (em : m ≡ size w (feature w i)) (el : (v : ℕ) → v < 12 → get_or l v 0 ≡ body w i v) where
    abbrev K : ℕ
    K = feature w i

    known : K < features w
    known = (s.nodes_ok.each i h).known

    size_is : (2 ≤ m) × (m ≤ 8)
    size_is = rw em (s.header.fit.large K known)

    -- its branches are those of the body
    arm_is : (v : ℕ) → v < m → branch (goes (listed l) v) (added (listed l) v) ≡ get_or (at (nodes w) i).branches v blank
    arm_is v hv = regular.reads (listed l) (body w i) v (omega (arith, size_is)) el ∙ sym (branch_at_lem w i v h (omega arith))

    feature_is : (at (nodes w) i).feature ≡ K
    feature_is = ap (λ (x : Node costs). x.feature) (at_nodes w i h)

    -- in a sound table every sum fits
    arm_fits : Sound w → (up : Bool) (v : ℕ) → v < m → Fit add_most (arm_sum up w l v)
    arm_fits z up v hv =
        let n : ℕ = get_or (sizes w) (at (nodes w) i).feature 0 in
        let hk : (at (nodes w) i).feature < length (sizes w) = omega (arith, feature_is, known, length_sizes w) in
        let d : drop (at (nodes w) i).feature (sizes w) ≡ n ∷ drop (suc (at (nodes w) i).feature) (sizes w) = drop-cons (sizes w) (at (nodes w) i).feature 0 hk in
        let e : n ≡ size w K = ap (λ (j : ℕ). get_or (sizes w) j 0) feature_is ∙ at_sizes w K known in
        subst (λ (b : Branch costs). Fit add_most (along (kept up w) b)) (sym (arm_is v hv))
        (along_fits (way up) (sizes w) (nodes w) wf (length (nodes w)) (le_refl _) (kept up w) (sound_passed z up) (ranged_narrow (sound_tested z) z.ranged) i n
        (drop (suc (at (nodes w) i).feature) (sizes w)) (omega (arith, length_nodes w)) (omega (arith, length_nodes w)) d
        (subst Pos d (pos_drop (at (nodes w) i).feature (sizes w) (sizes_pos s.header))) v (omega arith))

    -- a sum is lost
    pub own_lost : Sides w l m None → Sound w → ⊥
    own_lost q z = q (arm_fits z)

    module _ (a : Span) (q : (up : Bool) → int (end_of up a.low a.high) ≡ across (side_of up) (arm_sum up w l) m) where
      -- the furthest sum is the node's own
      own_is : (up : Bool) → int (end_of up a.low a.high) ≡ own (side_of up) (kept up w) (at (nodes w) i)
      unfolding own
      own_is up =
          let n : length (at (nodes w) i).branches ≡ m = (wf.fits i (omega (arith, length_nodes w))).full ∙ ap (λ (j : ℕ). get_or (sizes w) j 0) feature_is ∙ at_sizes w K known ∙ sym em in
          q up
          ∙ across_ext (side_of up) (arm_sum up w l) (λ v. along (kept up w) (get_or (at (nodes w) i).branches v blank)) m (λ v hv. ap (along (kept up w)) (arm_is v hv))
          ∙ ap (across (side_of up) (λ v. along (kept up w) (get_or (at (nodes w) i).branches v blank))) (sym n)

      -- what a sound table keeps is that
      sound_own : Sound w → (up : Bool) → int (end_of up a.low a.high) ≡ kept up w i
      sound_own g up = own_is up ∙ sym ((sound_passed g up).each i (omega (arith, length_nodes w)))

      pub own_wrong : (a.low ≡ word w i 14 → a.high ≡ word w i 15 → ⊥) → Sound w → ⊥
      own_wrong n g = n (int_one a.low _ (sound_own g false)) (int_one a.high _ (sound_own g true))

      pub own_right : a.low ≡ word w i 14 → a.high ≡ word w i 15 → Owns w i
      own_right ec ed true = ap int (sym ed) ∙ own_is true
      own_right ec ed false = ap int (sym ec) ∙ own_is false

  -- ---- nodes in turn
  pub pairs_all : (i : ℕ) → i ≡ count w → ((up : Bool) → Passed (side_of up) (nodes w) i (kept up w)) → Pairs w
  pairs_all i e q = passed_pairs w (sizes_pos s.header) wf (rw e at q)

  -- ---- the places: p has the base a, and for its root b and c are kept
  module _ (k : Pairs w) (p x a b c : ℕ) (h : p < 16) (ex : x ≡ root w p) (ea : a ≡ base w p) (q : Keeps w x b c) where
    end_is : (up : Bool) → int a +ℤ int (end_of up b c) ≡ extreme (side_of up) (sizes w) (cost_of w p)
    end_is up =
        (λ j. int (ea j) +ℤ (q.keeps up ∙ ap (λ (y : ℕ). kept_at (kept up w) (target y)) ex) j)
        ∙ sym (place_extreme (sizes w) (sizes_pos s.header) (nodes w) wf (root_at w p) ok (way up) (kept up w) (pairs_passed w (sizes_pos s.header) wf k up))
      where
        ok : Ok (nodes w) 0 (root_at w p)
        ok = sits_good regular w (count w) 0 (root w p) (le_refl _) (s.roots_ok.rooted p h)

    ends : Within cost_most (sizes w) (cost_of w p) ↔ ((fall (int a +ℤ int b) ≤ cost_most) × (rise (int a +ℤ int c) ≤ cost_most))
    ends =
        subst (λ (y : ℤ). Within cost_most (sizes w) (cost_of w p) ↔ ((fall y ≤ cost_most) × (rise (int a +ℤ int c) ≤ cost_most))) (sym (end_is false))
        (subst (λ (y : ℤ). Within cost_most (sizes w) (cost_of w p) ↔ ((fall (extreme (side_of false) (sizes w) (cost_of w p)) ≤ cost_most) × (rise y ≤ cost_most))) (sym (end_is true))
        (within_exactly cost_most (sizes w) (sizes_pos s.header) (cost_of w p)))

    pub place_inside : 3294967296 ≤ a + b → a + c ≤ 5294967296 → Within cost_most (sizes w) (cost_of w p)
    place_inside l m = ends.1 (fall_near (int a +ℤ int b) (omega (arith, words_sum a b)), rise_near (int a +ℤ int c) (omega (arith, words_sum a c)))

    pub place_low : Within cost_most (sizes w) (cost_of w p) → 3294967296 ≤ a + b
    place_low f = omega (arith, words_sum a b, (ends.0 f).0)

    pub place_high : Within cost_most (sizes w) (cost_of w p) → a + c ≤ 5294967296
    place_high f = omega (arith, words_sum a c, (ends.0 f).1)
