-- Two costs by their ends: no amount of both together lies further out than their ends meet, and where one of two targets is the end, one lies there. Assumes nothing.
use Rattle.std.specs.Prelude.{Option, Some, None}
use mathlib.Core.Bool.{Bool, true, false}
use mathlib.Core.Path.{◌≡◌, refl, sym, ap, ap₂, subst, ◌∙◌}
use mathlib.Core.List.{List}
use Prim.Native.Nat.{ℕ}
use native.Mathlib.Nat.{le_refl}
use native.Mathlib.Omega.{arith}
use lib.IntN.{ℤ, pos, ◌+ℤ◌, ◌-ℤ◌, +ℤ_idl, +ℤ_idr}
use lib.ListN.{length, drop}
use lib.Signed.{◌≤ℤ◌}
use Rattle.theory.specs.Costs.{Cost, costs}
use Rattle.theory.specs.Diagrams.{Target}
use Rattle.theory.specs.Settings.{Valid}
use Rattle.theory_costs.specs.Extremes.{kept_at}
use Rattle.theory_costs.proofs.Extremes.{Taken, extreme_beats, extreme_is, extreme_taken}
use Rattle.theory_costs.proofs.Integers.{fall_near, le_ℕ, minus_zero, minus_ℕ, rise_near, sum_ℕ, ℕ-le}
use Rattle.theory_costs.proofs.Passing.{passed_right, kept_fits}
use Rattle.theory_costs.proofs.Relative.{offs, from_end}
use Rattle.theory_costs.proofs.Words.{int_ℕ}
use Rattle.cost_words.specs.Sides.{end_of, Keeps}
use Rattle.cost_words.proofs.Packing.{target_end}
use Rattle.cost_words.proofs.Summing.{OrderOf, way}
use Rattle.cost_nodes.specs.Nodes.{Good}
use Rattle.cost_nodes.proofs.Reading.{pos_from, holds_passed}
use Rattle.cost_range.specs.Ends.{tie_of, facing, Spans, Reaches, Inside, meeting, Meeting, Pair, of_targets}
use Rattle.cost_words.specs.declared.sides.Span.{Span}
use Rattle.promises.specs.CostSound.{extreme, from, kept, side_of}
use Rattle.promises.specs.Integers.{Fit, int}
use Rattle.promises.specs.CostOperations.{joined}
use Rattle.promises.specs.Range.{Within, add_most, cost_most}
use Rattle.promises.specs.Words.{sizes}
use Rattle.promises.specs.CostWords.{target, cost_node_list as nodes}

-- ---- integers
sum_le : (a b c d : ℤ) → a ≤ℤ b → c ≤ℤ d → (a +ℤ c) ≤ℤ (b +ℤ d)
sum_le a b c d h k = ℕ-le (a +ℤ c) (b +ℤ d) (omega (arith, sum_ℕ a c, sum_ℕ b d, le_ℕ h, le_ℕ k))

minus_le : (a b c d : ℤ) → a ≤ℤ b → d ≤ℤ c → (a -ℤ c) ≤ℤ (b -ℤ d)
minus_le a b c d h k = ℕ-le (a -ℤ c) (b -ℤ d) (omega (arith, minus_ℕ a c, minus_ℕ b d, le_ℕ h, le_ℕ k))

-- what is further out on each side is further out together
tie_beats : (minus up : Bool) (a b c d : ℤ) → OrderOf up a b → OrderOf (facing minus up) c d → OrderOf up (tie_of minus a c) (tie_of minus b d)
tie_beats true true a b c d h k = minus_le b a d c h k
tie_beats true false a b c d h k = minus_le a b c d h k
tie_beats false true a b c d h k = sum_le b a d c h k
tie_beats false false a b c d h k = sum_le a b c d h k

tie_zero : (minus : Bool) (a : ℤ) → tie_of minus a (pos 0) ≡ a
tie_zero true a = minus_zero a
tie_zero false a = +ℤ_idr a

-- ---- any two costs
-- an end's word, as a side's extreme
pub span_side : (ns : List ℕ) (f : Cost) (l h : ℕ) → Spans ns f l h → (up : Bool) → int (end_of up l h) ≡ extreme (side_of up) ns f
span_side ns f l h q true = q.highest
span_side ns f l h q false = q.lowest

module _ (minus : Bool) (ns : List ℕ) (f g : Cost) (l h x y : ℕ) (p : (up : Bool) → int (end_of up l h) ≡ extreme (side_of up) ns f)
    (q : (up : Bool) → int (end_of up x y) ≡ extreme (side_of up) ns g) where
  -- no amount lies further out
  pub met_beats : (up : Bool) (s : List ℕ) → Valid ns s → OrderOf up (meeting minus up l h x y) (joined (tie_of minus) f g s).off
  met_beats up s v =
      tie_beats minus up (int (end_of up l h)) (f s).off (int (end_of (facing minus up) x y)) (g s).off
      (subst (λ (z : ℤ). OrderOf up z (f s).off) (sym (p up)) (extreme_beats (way up) ns f s v))
      (subst (λ (z : ℤ). OrderOf (facing minus up) z (g s).off) (sym (q (facing minus up))) (extreme_beats (way (facing minus up)) ns g s v))

  -- so where the ends meet in range, all amounts lie there
  pub met_within : (e : Option Span) → Meeting minus l h x y e → Inside e → Within cost_most ns (joined (tie_of minus) f g)
  met_within None m i = absurd i
  met_within (Some c) m i =
      record {
        fits = λ s v.
            let a : int c.low ≤ℤ (joined (tie_of minus) f g s).off = subst (λ (z : ℤ). z ≤ℤ (joined (tie_of minus) f g s).off) (sym (m false)) (met_beats false s v) in
            let b : (joined (tie_of minus) f g s).off ≤ℤ int c.high = subst (λ (z : ℤ). (joined (tie_of minus) f g s).off ≤ℤ z) (sym (m true)) (met_beats true s v) in
            record {
              top = rise_near (joined (tie_of minus) f g s).off (omega (arith, le_ℕ b, int_ℕ c.high, i.1));
              bottom = fall_near (joined (tie_of minus) f g s).off (omega (arith, le_ℕ a, int_ℕ c.low, i.0));
            };
      }

-- ---- two targets of a table
module _ (w : List ℕ) (k x y : ℕ) (p : Pair w k x y) where
  abbrev ns : List ℕ
  ns = drop k (sizes w)

  -- what is kept for a target is the extreme below it, and fits
  kept_side : (z : ℕ) → Good w k z → (up : Bool) → extreme (side_of up) ns (from (nodes w) k (target z)) ≡ kept_at (kept up w) (target z)
  kept_side z g up = passed_right (way up) (sizes w) (nodes w) p.holds.wf (length (nodes w)) (le_refl _) (kept up w) (holds_passed w p.holds p.narrow up) k ns refl
      (pos_from w k p.holds) (target z) g

  kept_fit : (z : ℕ) → Good w k z → (up : Bool) → Fit add_most (kept_at (kept up w) (target z))
  kept_fit z g up = kept_fits (way up) (sizes w) (nodes w) p.holds.wf (length (nodes w)) (le_refl _) (kept up w) (holds_passed w p.holds p.narrow up)
      p.narrow k ns refl (pos_from w k p.holds) (target z) g

  keeps_side : (z l h : ℕ) → Good w k z → Keeps w z l h → (up : Bool) → int (end_of up l h) ≡ extreme (side_of up) ns (from (nodes w) k (target z))
  keeps_side z l h g q up = q.keeps up ∙ sym (kept_side z g up)

  -- the end gives 0, and 0 is kept for it
  ended_from : (z : ℕ) → z ≡ 0 → (s : List ℕ) → (from (nodes w) k (target z) s).off ≡ pos 0
  ended_from z e s = ap (λ (t : Target costs). (from (nodes w) k t s).off) (target_end z e) ∙ offs (from_end (nodes w) k s)

  ended_kept : (z : ℕ) → z ≡ 0 → (up : Bool) → kept_at (kept up w) (target z) ≡ pos 0
  ended_kept z e up = ap (kept_at (kept up w)) (target_end z e)

  module _ (minus : Bool) (l h m n : ℕ) (a : Keeps w x l h) (b : Keeps w y m n) where
    beats : (up : Bool) (s : List ℕ) → Valid ns s → OrderOf up (meeting minus up l h m n) (of_targets minus w k x y s).off
    beats = met_beats minus ns (from (nodes w) k (target x)) (from (nodes w) k (target y)) l h m n (keeps_side x l h p.first a) (keeps_side y m n p.second b)

    -- the second has ended: the first's extreme is met
    second_taken : y ≡ 0 → (up : Bool) → Taken ns (of_targets minus w k x y) (meeting minus up l h m n)
    second_taken e up =
        let t = extreme_taken (way up) ns (pos_from w k p.holds) (from (nodes w) k (target x)) in
        record {
          setting = t.setting;
          valid = t.valid;
          takes = ap₂ (λ (c d : ℤ). tie_of minus c d) (keeps_side x l h p.first a up ∙ t.takes) (b.keeps (facing minus up) ∙ ended_kept y e (facing minus up) ∙ sym (ended_from y e t.setting));
        }

    -- the first has
    first_taken : x ≡ 0 → (up : Bool) → Taken ns (of_targets minus w k x y) (meeting minus up l h m n)
    first_taken e up =
        let t = extreme_taken (way (facing minus up)) ns (pos_from w k p.holds) (from (nodes w) k (target y)) in
        record {
          setting = t.setting;
          valid = t.valid;
          takes = ap₂ (λ (c d : ℤ). tie_of minus c d) (a.keeps up ∙ ended_kept x e up ∙ sym (ended_from x e t.setting)) (keeps_side y m n p.second b (facing minus up) ∙ t.takes);
        }

    met_exact : ((up : Bool) → Taken ns (of_targets minus w k x y) (meeting minus up l h m n)) → (e : Option Span) → ((up : Bool) → Fit add_most (meeting minus up l h m n))
        → Meeting minus l h m n e → Reaches ns (of_targets minus w k x y) e
    met_exact t None f q = absurd (q f)
    met_exact t (Some c) f q = record { lowest = side false; highest = side true }
      where
        side : (up : Bool) → int (end_of up c.low c.high) ≡ extreme (side_of up) ns (of_targets minus w k x y)
        side up = q up ∙ extreme_is (way up) ns (pos_from w k p.holds) (of_targets minus w k x y) (meeting minus up l h m n) (beats up) (t up)

    -- 0 and what fits
    second_fits : y ≡ 0 → (up : Bool) → Fit add_most (meeting minus up l h m n)
    second_fits e up =
        subst (Fit add_most) (sym (ap₂ (λ (c d : ℤ). tie_of minus c d) (a.keeps up) (b.keeps (facing minus up) ∙ ended_kept y e (facing minus up)) ∙ tie_zero minus (kept_at (kept up w) (target x))))
        (kept_fit x p.first up)

    first_fits : x ≡ 0 → (up : Bool) → Fit add_most (meeting minus up l h m n)
    first_fits e up =
        subst (Fit add_most) (sym (ap₂ (λ (c d : ℤ). tie_of minus c d) (a.keeps up ∙ ended_kept x e up) (b.keeps (facing minus up))))
        (zero_tie minus (kept_at (kept (facing minus up) w) (target y)) (kept_fit y p.second (facing minus up)))
      where
        zero_tie : (minus : Bool) (z : ℤ) → Fit add_most z → Fit add_most (tie_of minus (pos 0) z)
        zero_tie true z f = record { top = rise_near (pos 0 -ℤ z) (omega (arith, minus_ℕ (pos 0) z, f.bottom)); bottom = fall_near (pos 0 -ℤ z) (omega (arith, minus_ℕ (pos 0) z, f.top)) }
        zero_tie false z f = subst (Fit add_most) (sym (+ℤ_idl z)) f

    -- THE WALK STOPS: the ends meet at some setting
    pub second_ended : y ≡ 0 → (e : Option Span) → Meeting minus l h m n e → Reaches ns (of_targets minus w k x y) e
    second_ended z e q = met_exact (second_taken z) e (second_fits z) q

    pub first_ended : x ≡ 0 → (e : Option Span) → Meeting minus l h m n e → Reaches ns (of_targets minus w k x y) e
    first_ended z e q = met_exact (first_taken z) e (first_fits z) q
