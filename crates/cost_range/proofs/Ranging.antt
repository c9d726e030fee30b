-- RANGE from the ends of a cost; scaled costs; what each operation asks and tells. Assumes nothing.
use Rattle.std.specs.Prelude.{Option, Some, None}
use mathlib.Core.Bool.{Bool}
use mathlib.Core.Path.{◌≡◌, sym, ap, subst, ◌∙◌}
use mathlib.Core.List.{List}
use Prim.Native.Nat.{ℕ, ◌+◌, ◌-◌, ◌≤◌}
use native.Mathlib.Omega.{arith}
use mathlib.Core.Logic.{⊎_elim}
use Rattle.table_words.proofs.Tab.{split}
use lib.IntN.{ℤ, pos, negsuc, ◌+ℤ◌, ◌*ℤ◌}
use Rattle.theory.specs.Costs.{Cost, costs}
use Rattle.theory.specs.Diagrams.{Branch, meaning}
use Rattle.theory.specs.Settings.{Pos}
use Rattle.theory_costs.specs.Extremes.{kept_at}
use Rattle.theory_costs.proofs.Extremes.{low, high, extreme_taken}
use Rattle.theory_costs.proofs.Integers.{fit_more, rise_near, fall_near}
use Rattle.theory_costs.proofs.Passing.{place_extreme}
use Rattle.theory_costs.proofs.Range.{extreme_fits, within_exactly, lowest_scaled, highest_scaled, lowest_turned, highest_turned}
use Rattle.theory_costs.proofs.Spreads.{within_spread}
use Rattle.theory_costs.proofs.Words.{int_ℕ}
use Rattle.settings.specs.Tells.{Tells}
use Rattle.settings.proofs.Answers.{retell}
use Rattle.cost_words.proofs.Summing.{way}
use Rattle.cost_nodes.proofs.Reading.{pos_from, holds_passed}
use Rattle.cost_notes.specs.Operand.{Operand}
use Rattle.cost_engine.specs.Joint.{together, Joinable}
use Rattle.cost_engine.specs.declared.operators.Operator.{Operator}
use Rattle.cost_engine.proofs.Operating.{below, above}
use Rattle.cost_range.specs.Ends.{Spans, Reaches, Inside}
use Rattle.cost_range.specs.Operable.{Operable}
use Rattle.cost_words.specs.declared.sides.Span.{Span}
use Rattle.promises.specs.CostSound.{extreme, kept, side_of}
use Rattle.promises.specs.Integers.{rise, fall, Fit, int}
use Rattle.promises.specs.CostOperations.{scaled}
use Rattle.promises.specs.Range.{Within, add_most, cost_most}
use Rattle.promises.specs.Words.{sizes}
use Rattle.promises.specs.CostWords.{target, cost_branch as branch, cost_node_list as nodes}

-- ---- a cost in range has its ends there, and no other has
module _ (ns : List ℕ) (ps : Pos ns) (f : Cost) where
  inside_within : (e : Option Span) → Reaches ns f e → Inside e → Within cost_most ns f
  inside_within None q i = absurd i
  inside_within (Some c) q i =
      (within_exactly cost_most ns ps f).1
      (rw (← q.lowest) (fall_near (int c.low) (omega (arith, int_ℕ c.low, i.0))), rw (← q.highest) (rise_near (int c.high) (omega (arith, int_ℕ c.high, i.1))))

  within_inside : (e : Option Span) → Reaches ns f e → Within cost_most ns f → Inside e
  within_inside None q w = q (within_spread w) (record { fits = λ s x. fit_more cost_most add_most (f s).off (omega arith) (w.fits s x) })
  within_inside (Some c) q w =
      let a : fall (int c.low) ≤ cost_most = rw q.lowest ((within_exactly cost_most ns ps f).0 w).0 in
      let b : rise (int c.high) ≤ cost_most = rw q.highest ((within_exactly cost_most ns ps f).0 w).1 in
      (omega (arith, int_ℕ c.low), omega (arith, int_ℕ c.high))

  pub ends_tell : (e : Option Span) → Reaches ns f e → (r : Bool) → Tells r (Inside e) → Tells r (Within cost_most ns f)
  ends_tell e q r t = retell r (inside_within e q) (within_inside e q) t

  module _ (l h : ℕ) (q : Spans ns f l h) where
    -- both ends of a cost in range are costs
    pub low_fits : Within cost_most ns f → Fit cost_most (int l)
    low_fits w = rw q.lowest (extreme_fits low ns ps f w)

    pub high_fits : Within cost_most ns f → Fit cost_most (int h)
    high_fits w = rw q.highest (extreme_fits high ns ps f w)

    -- ---- scaled: by what is made of its ends
    pub scaled_ends : (c : ℤ) → Fit cost_most (int l *ℤ c) → Fit cost_most (int h *ℤ c) → Within cost_most ns (scaled c f)
    scaled_ends (pos n) a b =
        (within_exactly cost_most ns ps (scaled (pos n) f)).1
        (rw (lowest_scaled ns ps f n, ← q.lowest) a.bottom, rw (highest_scaled ns ps f n, ← q.highest) b.top)
    scaled_ends (negsuc n) a b =
        (within_exactly cost_most ns ps (scaled (negsuc n) f)).1
        (rw (lowest_turned ns ps f n, ← q.highest) b.bottom, rw (highest_turned ns ps f n, ← q.lowest) a.top)

    pub scaled_low : (c : ℤ) → Within cost_most ns (scaled c f) → Fit cost_most (int l *ℤ c)
    scaled_low c w =
        let t = extreme_taken low ns ps f in
        subst (λ (z : ℤ). Fit cost_most (z *ℤ c)) (sym (q.lowest ∙ t.takes)) (w.fits t.setting t.valid)

    pub scaled_high : (c : ℤ) → Within cost_most ns (scaled c f) → Fit cost_most (int h *ℤ c)
    scaled_high c w =
        let t = extreme_taken high ns ps f in
        subst (λ (z : ℤ). Fit cost_most (z *ℤ c)) (sym (q.highest ∙ t.takes)) (w.fits t.setting t.valid)

-- ---- products
-- one of `rise` and `fall` is 0
fit_far : (B : ℕ) (z : ℤ) → Fit B z → rise z + fall z ≤ B
fit_far B (pos n) f = omega (arith, f.top)
fit_far B (negsuc n) f = omega (arith, f.bottom)

-- the distance of a word's integer from 0
pub far_word : (a : ℕ) → rise (int a) + fall (int a) ≡ a - 2147483648 + (2147483648 - a)
far_word a = ⊎_elim
    (λ h. let b = below a h in omega (arith, b.rises, b.falls))
    (λ h. let b = above a h in omega (arith, b.rises, b.falls))
    (split a 2147483648)

pub far_most : (a : ℕ) → Fit cost_most (int a) → a - 2147483648 + (2147483648 - a) ≤ cost_most
far_most a f = omega (arith, far_word a, fit_far cost_most (int a) f)

-- ---- one branch of the table: its ends, from what is kept for its target
module _ (w : List ℕ) (x a : ℕ) (o : Operand w (branch x a)) (up : Bool) (b : ℕ) (k : int b ≡ kept_at (kept up w) (target x)) where
  end_is : int a +ℤ int b ≡ extreme (side_of up) (sizes w) (meaning (nodes w) (branch x a))
  end_is =
      ap (λ (z : ℤ). int a +ℤ z) k
      ∙ sym (place_extreme (sizes w) (pos_from w 0 o.holds) (nodes w) o.holds.wf (branch x a) o.ok (way up) (kept up w) (holds_passed w o.holds o.narrow up))

  pub end_fits : Fit add_most (int a +ℤ int b)
  end_fits = fit_more cost_most add_most (int a +ℤ int b) (omega arith) (subst (Fit cost_most) (sym end_is)
      (extreme_fits (way up) (sizes w) (pos_from w 0 o.holds) (meaning (nodes w) (branch x a)) o.within))

  pub end_side : (r : ℕ) → int r ≡ int a +ℤ int b → int r ≡ extreme (side_of up) (sizes w) (meaning (nodes w) (branch x a))
  end_side r e = e ∙ end_is

-- ---- the operations
-- what is told of one operator's result, for the operator that it is
pub told : (S : List ℕ) (f g : Cost) (o u : Operator) → o ≡ u → (r : Bool) → Tells r (Within cost_most S (together u f g)) → Tells r (Within cost_most S (together o f g))
told S f g o u e r h = subst (λ (q : Operator). Tells r (Within cost_most S (together q f g))) (sym e) h

-- with the result in range, the engine may join the two
pub joinable : (w : List ℕ) (o : Operator) (b c : Branch costs) → Operable w o b c → Within cost_most (sizes w) (together o (meaning (nodes w) b) (meaning (nodes w) c)) → Joinable w o b c
joinable w o b c p h =
    record { first = p.first; second = p.second; result_in = h }
