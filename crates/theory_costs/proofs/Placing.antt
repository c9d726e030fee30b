-- A branch whose cost lies in range: what it adds on the way does too, and the difference of two bases stays within ±2B. Assumes nothing.
use mathlib.Core.Path.{◌≡◌, sym, ap, ◌∙◌, subst}
use mathlib.Core.Logic.{◌⊎◌, inl, inr}
use mathlib.Core.List.{List, ◌∷◌}
use Prim.Native.Nat.{ℕ, suc, ◌+◌, ◌<◌}
use native.Mathlib.Omega.{arith}
use lib.IntN.{ℤ, ◌+ℤ◌, ◌-ℤ◌, +ℤ_idr, +ℤ_assoc}
use lib.ListN.{length, drop}
use Rattle.theory.specs.Settings.{Pos, Valid, zeros}
use Rattle.theory.specs.Functions.{held, lift}
use Rattle.theory.specs.Diagrams.{Branch, Node, Target, value}
use Rattle.theory.specs.WellFormed.{Ok, Under, WellFormed}
use Rattle.theory.specs.Build.{Ext, build}
use Rattle.theory.specs.Costs.{costs}
use Rattle.theory.proofs.Lists.{drop_head}
use Rattle.theory.proofs.Ranges.{zeros_valid}
use Rattle.theory.proofs.Values.{value_ext, value_wait, value_zeros}
use Rattle.theory.proofs.Lifting.{build_adds}
use Rattle.theory_costs.specs.Relative.{branch_at, apart_from, onward}
use Rattle.theory_costs.specs.Narrow.{Placed, Spread}
use Rattle.theory_costs.proofs.Integers.{ℕ-eq, sum_ℕ, minus_ℕ, fit_minus}
use Rattle.theory_costs.proofs.Relative.{offs, value_from, from_step, from_zeros, branch_under}
use Rattle.theory_costs.proofs.Spreads.{spread_lower, within_agree, within_spread}
use Rattle.promises.specs.Integers.{Fit}
use Rattle.promises.specs.Range.{Within}
use Rattle.promises.specs.CostSound.{from}

-- ---- on the way down
-- what is added up so far is the cost where the features that are left are 0
pub adds_fits : {B : ℕ} (S : List ℕ) (N : List (Node costs)) → WellFormed S N → (k : ℕ) (ns : List ℕ) → Pos ns → (b : Branch costs) → Ok N k b → Within B ns (value N k b) → Fit B b.adds
adds_fits {B} S N w k ns p b o h = subst (Fit B) (value_zeros S N w k ns b o) (h.fits (zeros ns) (zeros_valid ns p))

pub within_wait : {B : ℕ} (N : List (Node costs)) (k n : ℕ) (ns : List ℕ) → 0 < n → (b : Branch costs) → Ok N (suc k) b → Within B (n ∷ ns) (value N k b) → Within B ns (value N (suc k) b)
within_wait {B} N k n ns p b o h = record { fits = λ s x. subst (Fit B) (offs (value_wait N k b 0 s o)) (h.fits (0 ∷ s) (p, x)) }

-- ---- two targets and the difference of their bases
module _ {B : ℕ} (N : List (Node costs)) (k : ℕ) where
  pub placed_start : (ns : List ℕ) (b c : Branch costs) → Within B ns (value N k b) → Within B ns (value N k c) → Placed B ns N k b.to c.to (c.adds -ℤ b.adds)
  placed_start ns b c hb hc =
      let e : c.adds ≡ b.adds +ℤ (c.adds -ℤ b.adds) = ℕ-eq _ _ (omega (arith, minus_ℕ c.adds b.adds, sum_ℕ b.adds (c.adds -ℤ b.adds))) in
      record { onto = b.adds; first = hb; second = subst (λ (z : ℤ). Within B ns (value N k (record { adds = z; to = c.to }))) e hc }

  pub placed_wait : (n : ℕ) (ns : List ℕ) → 0 < n → (t u : Target costs) (d : ℤ) → Under N (length N) (suc k) t → Under N (length N) (suc k) u → Placed B (n ∷ ns) N k t u d
      → Placed B ns N (suc k) t u d
  placed_wait n ns p t u d o1 o2 h =
      record {
        onto = h.onto;
        first = within_wait N k n ns p (record { adds = h.onto; to = t }) o1 h.first;
        second = within_wait N k n ns p (record { adds = h.onto +ℤ d; to = u }) o2 h.second;
      }

  -- one value on
  pub placed_step : (n : ℕ) (ns : List ℕ) (t u : Target costs) (d : ℤ) → Placed B (n ∷ ns) N k t u d → (v : ℕ) → v < n →
      Placed B ns N (suc k) (branch_at N k t v).to (branch_at N k u v).to (onward d (branch_at N k t v).adds (branch_at N k u v).adds)
  placed_step n ns t u d h v l =
      record {
        onto = h.onto +ℤ a;
        first = record { fits = λ s x. subst (Fit B) (one s) (h.first.fits (v ∷ s) (l, x)) };
        second = record { fits = λ s x. subst (Fit B) (two s) (h.second.fits (v ∷ s) (l, x)) };
      }
    where
      a : ℤ
      a = (branch_at N k t v).adds

      b : ℤ
      b = (branch_at N k u v).adds

      regroup : (o d a b y : ℤ) → (o +ℤ d) +ℤ (b +ℤ y) ≡ ((o +ℤ a) +ℤ onward d a b) +ℤ y
      regroup o d a b y =
          ℕ-eq _ _
          (omega (arith, sum_ℕ o d, sum_ℕ b y, sum_ℕ (o +ℤ d) (b +ℤ y), sum_ℕ o a, sum_ℕ d b, minus_ℕ (d +ℤ b) a, sum_ℕ (o +ℤ a) ((d +ℤ b) -ℤ a), sum_ℕ ((o +ℤ a) +ℤ ((d +ℤ b) -ℤ a)) y))

      one : (s : List ℕ) → (value N k (record { adds = h.onto; to = t }) (v ∷ s)).off ≡ (value N (suc k) (record { adds = h.onto +ℤ a; to = (branch_at N k t v).to }) s).off
      one s =
          value_from N k (record { adds = h.onto; to = t }) (v ∷ s)
          ∙ ap (λ (z : ℤ). h.onto +ℤ z) (offs (from_step N k t v s))
          ∙ sym (+ℤ_assoc h.onto a (from N (suc k) (branch_at N k t v).to s).off)
          ∙ sym (value_from N (suc k) (record { adds = h.onto +ℤ a; to = (branch_at N k t v).to }) s)

      two : (s : List ℕ) → (value N k (record { adds = h.onto +ℤ d; to = u }) (v ∷ s)).off ≡ (value N (suc k) (record { adds = (h.onto +ℤ a) +ℤ onward d a b; to = (branch_at N k u v).to }) s).off
      two s =
          value_from N k (record { adds = h.onto +ℤ d; to = u }) (v ∷ s)
          ∙ ap (λ (z : ℤ). (h.onto +ℤ d) +ℤ z) (offs (from_step N k u v s))
          ∙ regroup h.onto d a b (from N (suc k) (branch_at N k u v).to s).off
          ∙ sym (value_from N (suc k) (record { adds = (h.onto +ℤ a) +ℤ onward d a b; to = (branch_at N k u v).to }) s)

  -- the difference fits
  pub placed_fits : (S : List ℕ) → WellFormed S N → (ns : List ℕ) → Pos ns → (t u : Target costs) (d : ℤ) → Under N (length N) k t → Under N (length N) k u → Placed B ns N k t u d → Fit (B + B) d
  placed_fits S w ns p t u d o1 o2 h =
      let e : (h.onto +ℤ d) -ℤ h.onto ≡ d = ℕ-eq _ _ (omega (arith, sum_ℕ h.onto d, minus_ℕ (h.onto +ℤ d) h.onto)) in
      subst (Fit (B + B)) e
      (fit_minus B B (h.onto +ℤ d) h.onto
      (adds_fits S N w k ns p (record { adds = h.onto +ℤ d; to = u }) o2 h.second)
      (adds_fits S N w k ns p (record { adds = h.onto; to = t }) o1 h.first))

  -- one value on, so does what the second has more with its branch
  pub placed_ahead : (S : List ℕ) → WellFormed S N → (n : ℕ) (ns : List ℕ) → Pos (n ∷ ns) → (t u : Target costs) (d : ℤ) → Under N (length N) k t → Under N (length N) k u → Placed B (n ∷ ns) N k t u d →
      (v : ℕ) → v < n → Fit (B + B) (d +ℤ (branch_at N k u v).adds)
  placed_ahead S w n ns p t u d o1 o2 h v l =
      let b : ℤ = (branch_at N k u v).adds in
      let e : ((h.onto +ℤ d) +ℤ b) -ℤ h.onto ≡ d +ℤ b =
      ℕ-eq _ _ (omega (arith, sum_ℕ h.onto d, sum_ℕ (h.onto +ℤ d) b, minus_ℕ ((h.onto +ℤ d) +ℤ b) h.onto, sum_ℕ d b)) in
      subst (Fit (B + B)) e
      (fit_minus B B ((h.onto +ℤ d) +ℤ b) h.onto
      (subst (Fit B)
      (value_from N k (record { adds = h.onto +ℤ d; to = u }) (v ∷ zeros ns)
      ∙ ap (λ (z : ℤ). (h.onto +ℤ d) +ℤ z) (offs (from_step N k u v (zeros ns)) ∙
      ap (λ (z : ℤ). b +ℤ z) (from_zeros N (suc k) S w ns (branch_at N k u v).to (branch_under N k S w u v o2)) ∙ +ℤ_idr b))
      (h.second.fits (v ∷ zeros ns) (l, zeros_valid ns p.1)))
      (adds_fits S N w k (n ∷ ns) p (record { adds = h.onto; to = t }) o1 h.first))

  -- both may be read in a longer list
  pub placed_ext : (S : List ℕ) → WellFormed S N → (M : List (Node costs)) → Ext N M → (ns : List ℕ) (t u : Target costs) (d : ℤ) → Under N (length N) k t → Under N (length N) k u
      → Placed B ns N k t u d → Placed B ns M k t u d
  placed_ext S w M e ns t u d o1 o2 h =
      record {
        onto = h.onto;
        first = within_agree (λ s x. value_ext S N M k (record { adds = h.onto; to = t }) s w e o1) h.first;
        second = within_agree (λ s x. value_ext S N M k (record { adds = h.onto +ℤ d; to = u }) s w e o2) h.second;
      }

-- ---- an operation that gives one of its operands
pub record Takes (F : ℤ → ℤ → ℤ) : Type 0 where
  pub either : (x y : ℤ) → (F x y ≡ x) ⊎ (F x y ≡ y)

module _ {B : ℕ} (N : List (Node costs)) (k : ℕ) (F : List ℕ → ℤ → ℤ → ℤ) (takes : (s : List ℕ) → Takes (F s)) where
  -- its result lies in range with the first's base on it, ..
  pub placed_result : (ns : List ℕ) (t u : Target costs) (d : ℤ) → (h : Placed B ns N k t u d) → Within B ns (λ s. lift h.onto (apart_from F N k t u d s))
  placed_result ns t u d h = record { fits = λ s x. go s x ((takes s).either (from N k t s).off (d +ℤ (from N k u s).off)) }
    where
      go : (s : List ℕ) → Valid ns s → (F s (from N k t s).off (d +ℤ (from N k u s).off) ≡ (from N k t s).off) ⊎ (F s (from N k t s).off (d +ℤ (from N k u s).off) ≡ d +ℤ (from N k u s).off) →
          Fit B (h.onto +ℤ F s (from N k t s).off (d +ℤ (from N k u s).off))
      go s x (inl e) = subst (Fit B) (value_from N k (record { adds = h.onto; to = t }) s ∙ ap (λ (z : ℤ). h.onto +ℤ z) (sym e)) (h.first.fits s x)
      go s x (inr e) =
          subst (Fit B)
          (value_from N k (record { adds = h.onto +ℤ d; to = u }) s ∙ +ℤ_assoc h.onto d (from N k u s).off ∙ ap (λ (z : ℤ). h.onto +ℤ z) (sym e))
          (h.second.fits s x)

  -- .. so its amounts lie no further apart than 2B, ..
  pub placed_spread : (ns : List ℕ) (t u : Target costs) (d : ℤ) → Placed B ns N k t u d → Spread (B + B) ns (apart_from F N k t u d)
  placed_spread ns t u d h = spread_lower h.onto (apart_from F N k t u d) (within_spread (placed_result ns t u d h))

  -- .. and what its branches add lies within ±2B
  pub placed_adds : (S : List ℕ) → WellFormed S N → (n : ℕ) (ns : List ℕ) → drop k S ≡ n ∷ ns → Pos (n ∷ ns) → (t u : Target costs) (d : ℤ) → Under N (length N) k t → Placed B (n ∷ ns) N k t u d →
      (v : ℕ) → v < n → (M : List (Node costs)) → WellFormed S M → Fit (B + B) (build (suc k) ns (held v (apart_from F N k t u d)) M).0.adds
  placed_adds S w n ns rest p t u d o h v l M wm =
      let g = apart_from F N k t u d in
      let e : (h.onto +ℤ (g (v ∷ zeros ns)).off) -ℤ h.onto ≡ (g (v ∷ zeros ns)).off =
      ℕ-eq _ _ (omega (arith, sum_ℕ h.onto (g (v ∷ zeros ns)).off, minus_ℕ (h.onto +ℤ (g (v ∷ zeros ns)).off) h.onto)) in
      subst (Fit (B + B)) (e ∙ sym (build_adds S (suc k) ns (drop_head S k n ns rest).2 p.1 (held v g) M wm))
      (fit_minus B B (h.onto +ℤ (g (v ∷ zeros ns)).off) h.onto
      ((placed_result (n ∷ ns) t u d h).fits (v ∷ zeros ns) (l, zeros_valid ns p.1))
      (adds_fits S N w k (n ∷ ns) p (record { adds = h.onto; to = t }) o h.first))
