-- The walk over pairs of targets of a table: down to the feature that is tested, one value on, two branches, the whole. Assumes nothing.
use Rattle.std.specs.Prelude.{Option, Some, None}
use mathlib.Core.Bool.{Bool, true, false}
use mathlib.Core.Path.{◌≡◌, sym, ap, ap₂, subst, ◌∙◌}
use mathlib.Core.List.{List}
use Prim.Native.Nat.{ℕ, zero, suc, ◌+◌, ◌-◌, ◌≤◌, ◌<◌}
use native.Mathlib.Numerals.{add-one}
use native.Mathlib.Omega.{arith}
use lib.IntN.{ℤ, pos, ◌+ℤ◌}
use lib.ListN.{drop}
use Rattle.theory.specs.Costs.{Cost, amount, costs}
use Rattle.theory.specs.Diagrams.{Branch, value}
use Rattle.theory.specs.Functions.{Agree, held, lift}
use Rattle.theory.specs.Settings.{zeros}
use Rattle.theory.proofs.Values.{value_next}
use Rattle.theory_costs.specs.Relative.{branch_at}
use Rattle.theory_costs.proofs.Adding.{Splits, add_splits, subtract_splits, splits_zero, joined_split, pair_wait}
use Rattle.theory_costs.proofs.Relative.{from_zeros}
use Rattle.table_words.specs.Words.{listed}
use Rattle.cost_words.specs.Sums.{Stands}
use Rattle.cost_nodes.specs.Nodes.{Holds, top, Place}
use Rattle.cost_nodes.proofs.Stepping.{good_small, good_top, top_good, top_below, place_next}
use Rattle.cost_nodes.proofs.Reading.{pos_from, sizes_from}
use Rattle.cost_range.specs.Ends.{tie_of, Spans, Reaches, Pair, of_targets, of_branches, Folds, Right}
use Rattle.cost_words.specs.declared.sides.Span.{Span}
use Rattle.cost_range.proofs.Ending.{reaches_agree, reaches_wait, lost_held, folded_all}
use Rattle.cost_range.proofs.Ending as E
use Rattle.promises.specs.Integers.{int}
use Rattle.promises.specs.CostSound.{bare}
use Rattle.promises.specs.Words.{features, size, sizes, count}
use Rattle.promises.specs.CostWords.{target, cost_branch as branch, cost_node_list as nodes}

tie_splits : (minus : Bool) → Splits (tie_of minus)
tie_splits true = subtract_splits
tie_splits false = add_splits

module _ (w : List ℕ) (k x y : ℕ) (p : Pair w k x y) where
  -- ---- the two targets
  pub first_place : Place w k x
  first_place = record { holds = p.holds; good = p.first; up_to = p.up_to }

  pub second_place : Place w k y
  second_place = record { holds = p.holds; good = p.second; up_to = p.up_to }

  -- one value on
  pub pair_step : (v xa a yb b : ℕ) → k < features w → branch xa a ≡ branch_at (nodes w) k (target x) v → branch yb b ≡ branch_at (nodes w) k (target y) v → Pair w (k + 1) xa yb
  pair_step v xa a yb b hk ea eb =
      let f = place_next w k x v xa a first_place hk ea in
      let g = place_next w k y v yb b second_place hk eb in
      record { holds = p.holds; narrow = p.narrow; up_to = f.up_to; first = f.good; second = g.good }

  -- the lowest feature j that one of the two tests
  module _ (j : ℕ) (hx : j ≤ top w x) (hy : j ≤ top w y) where
    pub pair_left : (x ≡ 0 → ⊥) → j < features w
    pair_left n = omega (arith, top_below w k x p.holds p.first (omega (arith, n)))

    pub pair_from_lem : ((z : ℕ) → z ≤ top w x → z ≤ top w y → z ≤ j) → k ≤ j
    pair_from_lem m = m k (good_top w k x p.first p.up_to) (good_top w k y p.second p.up_to)

    pub pair_jump : j < features w → Pair w j x y
    pair_jump h =
        record {
          holds = p.holds;
          narrow = p.narrow;
          up_to = omega arith;
          first = top_good w j x (good_small w k x p.first) hx;
          second = top_good w j y (good_small w k y p.second) hy;
        }

  module _ (minus : Bool) where
    -- ---- one feature of which the pair looks at none or at one
    module _ (hk : k < features w) where
      pub all_folded : (v : ℕ) (a : Option Span) → v ≡ size w k → Folds (drop (k + 1) (sizes w)) (of_targets minus w k x y) v a → Reaches (drop k (sizes w)) (of_targets minus w k x y) a
      all_folded v (Some a) e f =
          subst (λ (ns : List ℕ). Spans ns (of_targets minus w k x y) a.low a.high) (sym (sizes_from w k hk))
          (folded_all (size w k) (drop (suc k) (sizes w)) (of_targets minus w k x y) a.low a.high (omega (arith, p.holds.laid.laid.large k hk)) (rw (add-one, e) at f.1) (rw (add-one, e) at f.2))
      all_folded v None e f = absurd (omega (arith, p.holds.laid.laid.large k hk))

      pub one_lost : (v : ℕ) → v < size w k → Reaches (drop (k + 1) (sizes w)) (held v (of_targets minus w k x y)) None → Reaches (drop k (sizes w)) (of_targets minus w k x y) None
      one_lost v h q =
          subst (λ (ns : List ℕ). Reaches ns (of_targets minus w k x y) None) (sym (sizes_from w k hk))
          (lost_held (size w k) (drop (suc k) (sizes w)) (of_targets minus w k x y) v h (rw add-one at q))

    -- what value v leaves is what its two branches give
    pub branches_at : (v xa a yb b : ℕ) → branch xa a ≡ branch_at (nodes w) k (target x) v → branch yb b ≡ branch_at (nodes w) k (target y) v → (r : Option Span) →
        Reaches (drop (k + 1) (sizes w)) (of_branches minus w (k + 1) xa a yb b) r → Reaches (drop (k + 1) (sizes w)) (held v (of_targets minus w k x y)) r
    branches_at v xa a yb b ea eb r q =
        reaches_agree (drop (k + 1) (sizes w)) (held v (of_targets minus w k x y)) (of_branches minus w (k + 1) xa a yb b) agree r q
      where
        two : Branch costs → Branch costs → List ℕ → ℤ
        two f g s = tie_of minus (value (nodes w) (suc k) f s).off (value (nodes w) (suc k) g s).off

        agree : Agree (drop (k + 1) (sizes w)) (held v (of_targets minus w k x y)) (of_branches minus w (k + 1) xa a yb b)
        agree s h =
            rw add-one
            (ap amount ((λ i. tie_of minus (value_next (nodes w) k (bare (target x)) v s i).off (value_next (nodes w) k (bare (target y)) v s i).off)
            ∙ ap₂ (λ (f g : Branch costs). two f g s) (sym ea) (sym eb)))

-- ---- down to the lowest feature that one of the two tests
module _ (w : List ℕ) (minus : Bool) (x y j : ℕ) (ok : Holds w) (sx : x ≤ count w) (sy : y ≤ count w) (hx : j ≤ top w x) (hy : j ≤ top w y) (hj : j ≤ features w) where
  jump : (d k : ℕ) → k + d ≡ j → (r : Option Span) → Reaches (drop j (sizes w)) (of_targets minus w j x y) r → Reaches (drop k (sizes w)) (of_targets minus w k x y) r
  jump zero k e r q = let f : j ≡ k = omega arith in subst (λ (i : ℕ). Reaches (drop i (sizes w)) (of_targets minus w i x y) r) f q
  jump (suc d) k e r q =
      subst (λ (ns : List ℕ). Reaches ns (of_targets minus w k x y) r) (sym (sizes_from w k (omega arith)))
      (reaches_wait (size w k) (drop (suc k) (sizes w)) (of_targets minus w k x y) (of_targets minus w (suc k) x y) (omega (arith, ok.laid.laid.large k (omega arith)))
      (λ v l s h. pair_wait (tie_of minus) (tie_splits minus) (nodes w) k (target x) (target y) (top_good w (suc k) x sx (omega arith)) (top_good w (suc k) y sy (omega arith)) v s) r
      (jump d (suc k) (omega arith) r q))

pub reaches_jump : (w : List ℕ) (k x y : ℕ) → Pair w k x y → (minus : Bool) (j : ℕ) → j ≤ top w x → j ≤ top w y → k ≤ j → j < features w → (r : Option Span) →
    Reaches (drop j (sizes w)) (of_targets minus w j x y) r → Reaches (drop k (sizes w)) (of_targets minus w k x y) r
reaches_jump w k x y p minus j hx hy l h r q =
    jump w minus x y j p.holds (good_small w k x p.first) (good_small w k y p.second) hx hy (omega arith) (j - k) k (omega arith) r q

-- ---- two branches
module _ (w : List ℕ) (k x a y b : ℕ) (p : Pair w k x y) (minus : Bool) where
  abbrev ns : List ℕ
  ns = drop k (sizes w)

  abbrev below : Cost
  below = of_targets minus w k x y

  abbrev whole : Cost
  whole = of_branches minus w k x a y b

  abbrev C : ℤ
  C = tie_of minus (int a) (int b)

  below_none : (below (zeros ns)).off ≡ pos 0
  below_none =
      (λ i. tie_of minus (from_zeros (nodes w) k (sizes w) p.holds.wf ns (target x) p.first i) (from_zeros (nodes w) k (sizes w) p.holds.wf ns (target y) p.second i))
      ∙ splits_zero (tie_of minus) (tie_splits minus)

  raised : Agree ns whole (λ s. lift C (below s))
  raised s h = joined_split (tie_of minus) (tie_splits minus) (nodes w) k (branch x a) (branch y b) s

  -- what both add is lost, or the rest is
  pub base_lost : Stands C None → Reaches ns whole None
  base_lost q = E.base_lost ns (pos_from w k p.holds) C below whole below_none raised q

  pub rest_lost : Reaches ns below None → Reaches ns whole None
  rest_lost q = E.rest_lost ns (pos_from w k p.holds) C below whole below_none raised q

  -- the sum of both, on each side
  module _ (c : ℕ) (e : Span) (sc : int c ≡ C) (q : Spans ns below e.low e.high) where
    pub low_lost : Stands (int c +ℤ int e.low) None → Reaches ns whole None
    low_lost s = E.end_lost ns (pos_from w k p.holds) C below whole below_none raised false c e.low sc q.lowest s

    pub high_lost : Stands (int c +ℤ int e.high) None → Reaches ns whole None
    high_lost s = E.end_lost ns (pos_from w k p.holds) C below whole below_none raised true c e.high sc q.highest s

    pub both_stand : (u v : ℕ) → int u ≡ int c +ℤ int e.low → int v ≡ int c +ℤ int e.high → Reaches ns whole (Some (record { low = u; high = v }))
    both_stand u v su sv =
        record {
          lowest = E.end_stands ns (pos_from w k p.holds) C below whole below_none raised false c e.low sc q.lowest u su;
          highest = E.end_stands ns (pos_from w k p.holds) C below whole below_none raised true c e.high sc q.highest v sv;
        }

-- ---- the memory: an entry says the ends of one pair
pub right_here : (minus : Bool) (w : List ℕ) (k : ℕ) (key : List ℕ) (l h : ℕ) → listed key 0 ≡ k + 1 → Spans (drop k (sizes w)) (of_targets minus w k (listed key 1) (listed key 2)) l h
    → Right minus w key l h
right_here minus w k key l h e q =
    record { at = λ j f. let n : k ≡ j = omega (arith, e, f) in subst (λ (i : ℕ). Spans (drop i (sizes w)) (of_targets minus w i (listed key 1) (listed key 2)) l h) n q }
