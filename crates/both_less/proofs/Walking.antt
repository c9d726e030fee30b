-- The walk of less over two targets of a cost table: one value on, a feature that neither tests, equal targets, the start; its results in the rule table beside. Assumes nothing.
use mathlib.Core.Path.{◌≡◌, refl, sym, ap, ap₂, subst, ◌∙◌}
use mathlib.Core.Bool.{Bool, true, false, cond}
use mathlib.Core.Logic.{⊎_elim}
use mathlib.Core.List.{List, ◌∷◌}
use Prim.Native.Nat.{ℕ, suc, ◌+◌, ◌<◌}
use native.Mathlib.Numerals.{add-one}
use native.Mathlib.Omega.{arith}
use lib.Dec.{ltb}
use mir.Val.{bool_byte}
use Rattle.std.proofs.lemmas.Bool.{ltb-true, ltb-false}
use Rattle.theory_costs.proofs.Words.{int_lt, int_le}
use Rattle.cost_words.proofs.Packing.{int_zero}
use lib.IntN.{ℤ, pos, ◌+ℤ◌, ◌-ℤ◌}
use lib.ListN.{drop}
use lib.Signed.{lt_z}
use Rattle.theory.specs.Costs.{costs}
use Rattle.theory.specs.Diagrams.{Branch, Node, meaning}
use Rattle.theory.specs.Functions.{held}
use Rattle.theory.specs.Rules.{Rule, says}
use Rattle.theory.specs.Settings.{Pos}
use Rattle.theory.specs.WellFormed.{Ok}
use Rattle.theory.proofs.Lists.{pos_drop}
use Rattle.theory_costs.specs.Narrow.{Placed}
use Rattle.theory_costs.specs.Relative.{branch_at, below_from, onward}
use Rattle.theory_costs.proofs.Less.{below_step, below_wait, below_split, below_same}
use Rattle.theory_costs.proofs.Placing.{placed_start, placed_wait, placed_step, placed_fits, placed_ahead}
use Rattle.theory_costs.proofs.Relative.{branch_under}
use Rattle.table_words.proofs.Tab.{split}
use Rattle.table_calls.proofs.Lists.{as_long}
use Rattle.cost_nodes.specs.Nodes.{Good, top, Place}
use Rattle.cost_nodes.proofs.Reading.{lawful, sizes_from}
use Rattle.cost_nodes.proofs.Stepping.{good_small, good_top, top_good, top_most, top_below}
use Rattle.rule_lending.specs.Lending.{Says, phrases}
use Rattle.rule_lending.specs.Building.{Filling, Result}
use Rattle.std.specs.Prelude.{Option, Some}
use Rattle.rule_lending.proofs.Building.{result_agree, result_number, result_skip, filling_ready, filling_sizes}
use Rattle.both_less.specs.Less.{Beside, Comparable, less_from, Operands}
use Rattle.promises.specs.Integers.{Fit, int}
use Rattle.promises.specs.CostOperations.{is_below}
use Rattle.promises.specs.Range.{add_most, cost_most}
use Rattle.promises.specs.Words.{features, size, sizes}
use Rattle.promises.specs.CostWords.{target, cost_branch as branch, cost_node_list as nodes}

-- ---- the rule table beside, when it has grown
pub beside_grown : {w v t : List ℕ} {k u : ℕ} {g : Rule} {l : List ℕ} → Beside w v → Filling v t k g u l → Beside w t
beside_grown b f = record { ready = filling_ready f; same = filling_sizes f b.ready ∙ b.same }

-- a bit is a phrase number
pub bit_small : {e : ℕ} (t : Bool) → e ≡ cond t 1 0 → e < phrases
bit_small true h = omega (arith, h)
bit_small false h = omega (arith, h)

-- the bit of a difference above 0
pub bit_above : {e : ℕ} (d : ℕ) → e ≡ bool_byte (ltb 2147483648 d) → e ≡ cond (lt_z (pos 0) (int d)) 1 0
bit_above d q = q ∙ go (ltb 2147483648 d) refl
  where
    by_zero : {u : Bool} → lt_z (int 2147483648) (int d) ≡ u → ◌≡◌ {A = ℕ} (cond u 1 0) (cond (lt_z (pos 0) (int d)) 1 0)
    by_zero e = sym (ap (λ (b : Bool). cond b 1 0) (ap (λ (z : ℤ). lt_z z (int d)) (sym int_zero) ∙ e))

    go : (u : Bool) → ltb 2147483648 d ≡ u → bool_byte u ≡ cond (lt_z (pos 0) (int d)) 1 0
    go true h = by_zero (int_lt 2147483648 d (ltb-true 2147483648 d h))
    go false h = by_zero (int_le 2147483648 d (ltb-false 2147483648 d h))

-- the word of the difference one value on
pub onward_word : (d a b r g : ℕ) → int r ≡ int d +ℤ int b → int g ≡ int r -ℤ int a → int g ≡ onward (int d) (int a) (int b)
onward_word d a b r g e q = q ∙ ap (λ (z : ℤ). z -ℤ int a) e

-- ---- two targets
module _ (w : List ℕ) (k x y d : ℕ) (p : Operands w k x y d) where
  pub first_place : Place w k x
  first_place = record { holds = p.holds; good = p.first; up_to = p.up_to }

  pub second_place : Place w k y
  second_place = record { holds = p.holds; good = p.second; up_to = p.up_to }

  -- targets that differ: one is a node, which tests a feature, and none below k
  pub still_left : (x ≡ y → ⊥) → k < features w
  still_left n = ⊎_elim (λ h. tests x p.first h) (λ h. tests y p.second (omega (arith, n))) (split 0 x)
    where
      tests : (z : ℕ) → Good w k z → 0 < z → k < features w
      tests z g h = omega (arith, good_top w k z g p.up_to, top_below w k z p.holds g h)

  -- of equal targets the difference decides
  less_same : (s : List ℕ) → x ≡ y → less_from w k x y d s ≡ says (cond (lt_z (pos 0) (int d)) 1 0)
  unfolding less_from
  less_same s e = ap (λ (z : ℕ). below_from (nodes w) k (target x) (target z) (int d) s) (sym e) ∙ below_same (nodes w) k (target x) (int d) s

  pub less_equal : {v : List ℕ} {e z : ℕ} → Beside w v → x ≡ y → e ≡ cond (lt_z (pos 0) (int d)) 1 0 → Says z e → Result v v k (less_from w k x y d) (Some z)
  less_equal b q h z = result_number b.ready z (λ s. less_same s q ∙ ap says (sym h))

  -- both in range from feature k on
  listed_placed : k < features w → Placed cost_most (size w k ∷ drop (suc k) (sizes w)) (nodes w) k (target x) (target y) (int d)
  listed_placed hk = subst (λ (ns : List ℕ). Placed cost_most ns (nodes w) k (target x) (target y) (int d)) (sizes_from w k hk) p.placed

  module _ (hx : k < top w x) (hy : k < top w y) where
    pub skip_left : k < features w
    skip_left = omega (arith, top_most w k x p.holds p.first)

    on : (z : ℕ) → Good w k z → k < top w z → Good w (suc k) z
    on z g l = top_good w (suc k) z (good_small w k z g) l

    -- neither tests feature k
    pub operands_skip : Operands w (k + 1) x y d
    operands_skip =
        rw add-one
        (record {
          holds = p.holds;
          up_to = omega (arith, skip_left);
          first = on x p.first hx;
          second = on y p.second hy;
          placed =
              placed_wait (nodes w) k (size w k) (drop (suc k) (sizes w)) (omega (arith, p.holds.laid.laid.large k skip_left)) (target x) (target y) (int d)
              (on x p.first hx) (on y p.second hy)
              (listed_placed skip_left);
        })

    pub less_skip : (v t : List ℕ) (a : Option ℕ) → Beside w v → Result v t (k + 1) (less_from w (k + 1) x y d) a → Result v t k (less_from w k x y d) a
    unfolding less_from
    less_skip v t a b r =
        result_skip b.ready a (omega (arith, as_long v w b.same, skip_left))
        (λ u l s. rw add-one (below_wait (nodes w) k (target x) (target y) (int d) (on x p.first hx) (on y p.second hy) u s)) r

  -- ---- one value on
  module _ (hk : k < features w) (v xa a yb b : ℕ) (hv : v < size w k) (ea : branch xa a ≡ branch_at (nodes w) k (target x) v) (eb : branch yb b ≡ branch_at (nodes w) k (target y) v) where
    abbrev N : List (Node costs)
    N = nodes w

    abbrev ns : List ℕ
    ns = drop (suc k) (sizes w)

    ps : Pos (size w k ∷ ns)
    ps = subst Pos (sizes_from w k hk) (pos_drop k (sizes w) (lawful.positive w p.holds.laid))

    next_placed : Placed cost_most ns N (suc k) (target xa) (target yb) (onward (int d) (int a) (int b))
    next_placed =
        subst (λ (f : Branch costs). Placed cost_most ns N (suc k) f.to (target yb) (onward (int d) f.adds (int b))) (sym ea)
        (subst (λ (g : Branch costs). Placed cost_most ns N (suc k) (branch_at N k (target x) v).to g.to (onward (int d) (branch_at N k (target x) v).adds g.adds)) (sym eb)
        (placed_step N k (size w k) ns (target x) (target y) (int d) (listed_placed hk) v hv))

    next_good : (z zc c : ℕ) → Good w k z → branch zc c ≡ branch_at N k (target z) v → Good w (suc k) zc
    next_good z zc c g e = subst (Ok N (suc k)) (sym e) (branch_under N k (sizes w) p.holds.wf (target z) v g)

    -- the difference there has a word, ..
    pub onward_fits : (r : ℕ) → int r ≡ int d +ℤ int b → Fit add_most (int r -ℤ int a)
    onward_fits r e = subst (λ (z : ℤ). Fit add_most (z -ℤ int a)) (sym e) (placed_fits N (suc k) (sizes w) p.holds.wf ns ps.1 (target xa) (target yb)
        (onward (int d) (int a) (int b)) (next_good x xa a p.first ea) (next_good y yb b p.second eb) next_placed)

    -- .. and so has the second's sum on the way to it
    pub sum_fits : Fit add_most (int d +ℤ int b)
    sum_fits =
        subst (λ (g : Branch costs). Fit add_most (int d +ℤ g.adds)) (sym eb)
        (placed_ahead N k (sizes w) p.holds.wf (size w k) ns ps (target x) (target y) (int d) p.first p.second (listed_placed hk) v hv)

    pub operands_step : (g : ℕ) → int g ≡ onward (int d) (int a) (int b) → Operands w (k + 1) xa yb g
    operands_step g e =
        rw add-one
        (record {
          holds = p.holds;
          up_to = hk;
          first = next_good x xa a p.first ea;
          second = next_good y yb b p.second eb;
          placed = subst (λ (z : ℤ). Placed cost_most ns N (suc k) (target xa) (target yb) z) (sym e) next_placed;
        })

    -- the branch of the result at v is the result of the branches at v
    pub less_held : (g : ℕ) → int g ≡ onward (int d) (int a) (int b) → (s : List ℕ) → held v (less_from w k x y d) s ≡ less_from w (k + 1) xa yb g s
    unfolding less_from
    less_held g e s =
        rw add-one
        (below_step N k (target x) (target y) (int d) v s
        ∙ ap₂ (λ (f h : Branch costs). below_from N (suc k) f.to h.to (onward (int d) f.adds h.adds) s) (sym ea) (sym eb)
        ∙ ap (λ (z : ℤ). below_from N (suc k) (target xa) (target yb) z s) (sym e))

-- ---- at the start: the difference of the bases
module _ (w v : List ℕ) (x a y b : ℕ) (p : Comparable w v (branch x a) (branch y b)) where
  start_placed : Placed cost_most (sizes w) (nodes w) 0 (target x) (target y) (int b -ℤ int a)
  start_placed = placed_start (nodes w) 0 (sizes w) (branch x a) (branch y b) p.first_in p.second_in

  pub start_fits : Fit add_most (int b -ℤ int a)
  start_fits =
      placed_fits (nodes w) 0 (sizes w) p.holds.wf (sizes w) (lawful.positive w p.holds.laid) (target x) (target y) (int b -ℤ int a) p.first p.second start_placed

  pub start : (d : ℕ) → int d ≡ int b -ℤ int a → Operands w 0 x y d
  start d e =
      record {
        holds = p.holds;
        up_to = omega arith;
        first = p.first;
        second = p.second;
        placed = subst (λ (z : ℤ). Placed cost_most (sizes w) (nodes w) 0 (target x) (target y) z) (sym e) start_placed;
      }

  pub less_start : (d : ℕ) → int d ≡ int b -ℤ int a → (t : List ℕ) (r : Option ℕ) → Result v t 0 (less_from w 0 x y d) r →
      Result v t 0 (is_below (meaning (nodes w) (branch x a)) (meaning (nodes w) (branch y b))) r
  unfolding less_from
  less_start d e t r g =
      result_agree r
      (λ s. below_split (nodes w) 0 (branch x a) (branch y b) s ∙ ap (λ (z : ℤ). below_from (nodes w) 0 (target x) (target y) z s) (sym e)) g
