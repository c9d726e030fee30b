-- What keeps the sums of the walk in range: at the end, past a feature, one value on, in a longer list, at the start. Assumes nothing.
use mathlib.Core.Path.{◌≡◌, sym, ap, ◌∙◌, subst}
use mathlib.Core.List.{List, ◌∷◌}
use Prim.Native.Nat.{ℕ, suc, ◌<◌}
use native.Mathlib.Omega.{arith}
use lib.IntN.{ℤ, pos, ◌+ℤ◌, ◌-ℤ◌, +ℤ_idl, +ℤ_idr}
use lib.ListN.{length}
use Rattle.theory.specs.Build.{Ext}
use Rattle.theory.specs.Costs.{costs}
use Rattle.theory.specs.Diagrams.{Branch, Node, Target, value}
use Rattle.theory.specs.Settings.{Pos, Valid, zeros}
use Rattle.theory.specs.WellFormed.{Ok, Under, WellFormed}
use Rattle.theory.proofs.Ranges.{zeros_valid}
use Rattle.theory_costs.specs.Narrow.{Placed, Spread}
use Rattle.theory_costs.specs.Relative.{branch_at, apart_from, onward}
use Rattle.theory_costs.proofs.Adding.{Splits, add_splits, subtract_splits, scale_splits, splits_zero}
use Rattle.theory_costs.proofs.Integers.{ℕ-eq, sum_ℕ, minus_ℕ, fit_minus, fit_more, fit_zero, minus_zero}
use Rattle.theory_costs.proofs.Placing.{Takes, adds_fits, placed_start, placed_wait, placed_step, placed_fits, placed_ext, placed_result}
use Rattle.theory_costs.proofs.Range.{smaller_takes, larger_takes}
use Rattle.theory_costs.proofs.Relative.{offs, value_from, from_step, from_zeros, branch_under}
use Rattle.theory_costs.proofs.Spreads.{spread_agree, spread_lower, walk_spread, walk_spread_wait, within_agree, within_spread}
use Rattle.cost_engine.specs.Joint.{op_of, together, joint, joint_from, ahead, gap, Based, Bounded}
use Rattle.cost_engine.specs.declared.operators.Operator.{Operator}
use Rattle.cost_engine.specs.declared.operators.Operator.TheVariants.{Add, Subtract, Smaller, Larger, Scale}
use Rattle.cost_engine.proofs.Joining.{walk, joint_none, joint_split, joint_step, joint_wait, joint_ext, joint_zeros}
use Rattle.promises.specs.Integers.{Fit, int}
use Rattle.promises.specs.CostOperations.{smaller_of, larger_of}
use Rattle.promises.specs.Range.{Within, add_most, cost_most}
use Rattle.promises.specs.CostSound.{bare}

-- ---- what lies between two costs in range
back : (z y : ℤ) → (z +ℤ y) -ℤ z ≡ y
back z y = ℕ-eq ((z +ℤ y) -ℤ z) y (omega (arith, sum_ℕ z y, minus_ℕ (z +ℤ y) z))

-- both sums lie in range: so what the second adds lies within twice as much
between : (z y : ℤ) → Fit cost_most z → Fit cost_most (z +ℤ y) → Fit add_most y
between z y f g = subst (Fit add_most) (back z y) (fit_minus cost_most cost_most (z +ℤ y) z g f)

module _ (S : List ℕ) (N : List (Node costs)) (w : WellFormed S N) (k : ℕ) (t u : Target costs) (d : ℤ) (p : Under N (length N) k t) (q : Under N (length N) k u) where
  -- the base of two placed targets
  onto_fits : (ns : List ℕ) → Pos ns → (h : Placed cost_most ns N k t u d) → Fit cost_most h.onto
  onto_fits ns ps h = adds_fits S N w k ns ps (record { adds = h.onto; to = t }) p h.first

  -- ---- the difference
  pub more_fits : (o : Operator) (ns : List ℕ) → Pos ns → Bounded o ns N k t u d → Fit add_most d
  more_fits Add ns ps b = subst (Fit add_most) (sym b.based) (fit_zero add_most)
  more_fits Subtract ns ps b = subst (Fit add_most) (sym b.based) (fit_zero add_most)
  more_fits (Scale c) ns ps b = subst (Fit add_most) (sym b.based) (fit_zero add_most)
  more_fits Smaller ns ps b = placed_fits N k S w ns ps t u d p q b.based
  more_fits Larger ns ps b = placed_fits N k S w ns ps t u d p q b.based

  -- ---- any amount of the result
  zero_off : (o : Operator) (ns : List ℕ) → (joint_from o N k t u d (zeros ns)).off ≡ op_of o (pos 0) d
  zero_off o ns = joint_zeros o N k (bare t) (bare u) d S w ns p q ∙ ap (op_of o (pos 0)) (+ℤ_idr d)

  -- add, subtract, scale: all zeros have 0
  even_fits : (o : Operator) → Splits (op_of o) → (ns : List ℕ) → Pos ns → d ≡ pos 0 → Spread add_most ns (joint_from o N k t u d) → (s : List ℕ) → Valid ns s → Fit add_most (joint_from o N k t u d s).off
  even_fits o sp ns ps e h s x =
      subst (Fit add_most)
      (ap (λ (z : ℤ). (joint_from o N k t u d s).off -ℤ z) (zero_off o ns ∙ ap (op_of o (pos 0)) e ∙ splits_zero (op_of o) sp) ∙ minus_zero (joint_from o N k t u d s).off)
      (h.apart s (zeros ns) x (zeros_valid ns ps))

  apart_fits : (F : ℤ → ℤ → ℤ) → Takes F → (ns : List ℕ) → Pos ns → (h : Placed cost_most ns N k t u d) → (s : List ℕ) → Valid ns s → Fit add_most (apart_from (λ _. F) N k t u d s).off
  apart_fits F tk ns ps h s x =
      between h.onto (apart_from (λ _. F) N k t u d s).off (onto_fits ns ps h) ((placed_result N k (λ _. F) (λ _. tk) ns t u d h).fits s x)

  pub amount_fits : (o : Operator) (ns : List ℕ) → Pos ns → Bounded o ns N k t u d → (s : List ℕ) → Valid ns s → Fit add_most (joint_from o N k t u d s).off
  unfolding joint
  amount_fits Add ns ps b s x = even_fits Add add_splits ns ps b.based b.spread s x
  amount_fits Subtract ns ps b s x = even_fits Subtract subtract_splits ns ps b.based b.spread s x
  amount_fits (Scale c) ns ps b s x = even_fits (Scale c) (scale_splits (int c)) ns ps b.based b.spread s x
  amount_fits Smaller ns ps b s x = apart_fits smaller_of smaller_takes ns ps b.based s x
  amount_fits Larger ns ps b s x = apart_fits larger_of larger_takes ns ps b.based s x

  -- the end
  pub end_fits : (o : Operator) (ns : List ℕ) → Pos ns → Bounded o ns N k t u d → Fit add_most (op_of o (pos 0) d)
  end_fits o ns ps b = subst (Fit add_most) (zero_off o ns) (amount_fits o ns ps b (zeros ns) (zeros_valid ns ps))

-- ---- a feature that neither tests
module _ (N : List (Node costs)) (k n : ℕ) (ns : List ℕ) (t u : Target costs) (d : ℤ) where
  based_wait : (o : Operator) → 0 < n → Under N (length N) (suc k) t → Under N (length N) (suc k) u → Based o (n ∷ ns) N k t u d → Based o ns N (suc k) t u d
  based_wait Add h p q b = b
  based_wait Subtract h p q b = b
  based_wait (Scale c) h p q b = b
  based_wait Smaller h p q b = placed_wait N k n ns h t u d p q b
  based_wait Larger h p q b = placed_wait N k n ns h t u d p q b

  pub bounded_wait : (o : Operator) → 0 < n → Under N (length N) (suc k) t → Under N (length N) (suc k) u → Bounded o (n ∷ ns) N k t u d → Bounded o ns N (suc k) t u d
  bounded_wait o h p q b =
      record {
        based = based_wait o h p q b.based;
        spread =
            walk_spread_wait (walk o N) k n ns h (record { first = t; second = u; more = d })
            (λ v s. joint_wait o N k (bare t) (bare u) d v s p q) b.spread;
      }

  -- ---- one value on
  abbrev A : ℕ → Branch costs
  A v = branch_at N k t v

  abbrev B : ℕ → Branch costs
  B v = branch_at N k u v

  based_step : (o : Operator) (v : ℕ) → v < n → Based o (n ∷ ns) N k t u d → Based o ns N (suc k) (A v).to (B v).to (gap o d (A v).adds (B v).adds)
  based_step Add v h b = b
  based_step Subtract v h b = b
  based_step (Scale c) v h b = b
  based_step Smaller v h b = placed_step N k n ns t u d b v h
  based_step Larger v h b = placed_step N k n ns t u d b v h

  pub bounded_step : (o : Operator) (v : ℕ) → v < n → Bounded o (n ∷ ns) N k t u d → Bounded o ns N (suc k) (A v).to (B v).to (gap o d (A v).adds (B v).adds)
  bounded_step o v h b =
      record { based = based_step o v h b.based; spread = walk_spread (walk o N) k n ns (record { first = t; second = u; more = d }) b.spread v h }

  -- what is put before
  module _ (S : List ℕ) (w : WellFormed S N) (ps : Pos (n ∷ ns)) (p : Under N (length N) k t) (q : Under N (length N) k u) (v : ℕ) (h : v < n) where
    at_zeros : (o : Operator) → (joint o N (suc k) (A v) (B v) d (zeros ns)).off ≡ op_of o (A v).adds (d +ℤ (B v).adds)
    at_zeros o = joint_zeros o N (suc k) (A v) (B v) d S w ns (branch_under N k S w t v p) (branch_under N k S w u v q)

    pub whole_fits : (o : Operator) → Bounded o (n ∷ ns) N k t u d → Fit add_most (joint o N (suc k) (A v) (B v) d (zeros ns)).off
    whole_fits o b =
        subst (Fit add_most) (offs (joint_step o N k (bare t) (bare u) d v (zeros ns)))
        (amount_fits S N w k t u d p q o (n ∷ ns) ps b (v ∷ zeros ns) (h, zeros_valid ns ps.1))

    even_lead : (o : Operator) → d ≡ pos 0 → Bounded o (n ∷ ns) N k t u d → Fit add_most (op_of o (A v).adds (B v).adds)
    even_lead o e b =
        subst (Fit add_most) (at_zeros o ∙ ap (op_of o (A v).adds) (ap (λ (z : ℤ). z +ℤ (B v).adds) e ∙ +ℤ_idl (B v).adds)) (whole_fits o b)

    apart_lead : Placed cost_most (n ∷ ns) N k t u d → Fit add_most (A v).adds
    apart_lead b =
        between b.onto (A v).adds (onto_fits S N w k t u d p q (n ∷ ns) ps b)
        (subst (Fit cost_most)
        (value_from N k (record { adds = b.onto; to = t }) (v ∷ zeros ns)
        ∙ ap (λ (z : ℤ). b.onto +ℤ z)
        (offs (from_step N k t v (zeros ns)) ∙ ap (λ (z : ℤ). (A v).adds +ℤ z) (from_zeros N (suc k) S w ns (A v).to (branch_under N k S w t v p)) ∙ +ℤ_idr (A v).adds))
        (b.first.fits (v ∷ zeros ns) (h, zeros_valid ns ps.1)))

    pub lead_fits : (o : Operator) → Bounded o (n ∷ ns) N k t u d → Fit add_most (ahead o (A v).adds (B v).adds)
    lead_fits Add b = even_lead Add b.based b
    lead_fits Subtract b = even_lead Subtract b.based b
    lead_fits (Scale c) b = even_lead (Scale c) b.based b
    lead_fits Smaller b = apart_lead b.based
    lead_fits Larger b = apart_lead b.based

-- ---- in a longer list
module _ (S : List ℕ) (N M : List (Node costs)) (w : WellFormed S N) (e : Ext N M) (ns : List ℕ) (k : ℕ) (t u : Target costs) (d : ℤ) (p : Under N (length N) k t) (q : Under N (length N) k u) where
  based_ext : (o : Operator) → Based o ns N k t u d → Based o ns M k t u d
  based_ext Add b = b
  based_ext Subtract b = b
  based_ext (Scale c) b = b
  based_ext Smaller b = placed_ext N k S w M e ns t u d p q b
  based_ext Larger b = placed_ext N k S w M e ns t u d p q b

  pub bounded_ext : (o : Operator) → Bounded o ns N k t u d → Bounded o ns M k t u d
  bounded_ext o b =
      record {
        based = based_ext o b.based;
        spread = spread_agree (λ s x. joint_ext o N k (bare t) (bare u) d S M w e p q s) b.spread;
      }

-- ---- at the start: two branches with no difference, both and the result in range
module _ (S : List ℕ) (N : List (Node costs)) (w : WellFormed S N) (k : ℕ) (ns : List ℕ) (ps : Pos ns) (b c : Branch costs) (p : Ok N k b) (q : Ok N k c)
    (hb : Within cost_most ns (value N k b)) (hc : Within cost_most ns (value N k c)) where
  placed_begin : Placed cost_most ns N k b.to c.to (onward (pos 0) b.adds c.adds)
  placed_begin =
      subst (λ (z : ℤ). Placed cost_most ns N k b.to c.to (z -ℤ b.adds)) (sym (+ℤ_idl c.adds)) (placed_start N k ns b c hb hc)

  based_start : (o : Operator) → Based o ns N k b.to c.to (gap o (pos 0) b.adds c.adds)
  based_start Add = λ i. pos 0
  based_start Subtract = λ i. pos 0
  based_start (Scale f) = λ i. pos 0
  based_start Smaller = placed_begin
  based_start Larger = placed_begin

  module _ (o : Operator) (hr : Within cost_most ns (together o (value N k b) (value N k c))) where
    joint_in : Within cost_most ns (joint o N k b c (pos 0))
    joint_in = within_agree (λ s x. joint_none o N k b c (pos 0) s) hr

    pub bounded_start : Bounded o ns N k b.to c.to (gap o (pos 0) b.adds c.adds)
    bounded_start =
        record {
          based = based_start o;
          spread =
              spread_lower (ahead o b.adds c.adds) (joint_from o N k b.to c.to (gap o (pos 0) b.adds c.adds))
              (spread_agree (λ s x. sym (joint_split o N k b c (pos 0) s)) (within_spread joint_in));
        }

    pub whole_start : Fit add_most (joint o N k b c (pos 0) (zeros ns)).off
    whole_start = fit_more cost_most add_most _ (omega arith) (joint_in.fits (zeros ns) (zeros_valid ns ps))

    even_start : Fit add_most (op_of o b.adds c.adds)
    even_start =
        subst (Fit add_most) (joint_zeros o N k b c (pos 0) S w ns p q ∙ ap (op_of o b.adds) (+ℤ_idl c.adds)) whole_start

  first_start : Fit add_most b.adds
  first_start = fit_more cost_most add_most b.adds (omega arith) (adds_fits S N w k ns ps b p hb)

  pub lead_start : (o : Operator) → Within cost_most ns (together o (value N k b) (value N k c)) → Fit add_most (ahead o b.adds c.adds)
  lead_start Add h = even_start Add h
  lead_start Subtract h = even_start Subtract h
  lead_start (Scale f) h = even_start (Scale f) h
  lead_start Smaller h = first_start
  lead_start Larger h = first_start
