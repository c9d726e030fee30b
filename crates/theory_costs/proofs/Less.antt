-- Less works on two nodes and the difference of their bases, and gives a rule. Assumes nothing.
use mathlib.Core.Path.{◌≡◌, sym, ap, ◌∙◌}
use mathlib.Core.Bool.{Bool, cond}
use mathlib.Core.List.{List, ◌∷◌}
use Prim.Native.Nat.{ℕ, suc}
use lib.IntN.{ℤ, pos, ◌+ℤ◌, ◌-ℤ◌, +ℤ_idr, +ℤ_comm}
use lib.ListN.{length}
use lib.Signed.{lt_z}
use Rattle.theory.specs.Rules.{Phrase, says}
use Rattle.theory.specs.Diagrams.{Branch, Node, Target, value}
use Rattle.theory.specs.WellFormed.{Under, WellFormed}
use Rattle.theory.specs.Build.{Ext}
use Rattle.theory.specs.Costs.{costs}
use Rattle.theory_costs.specs.Relative.{branch_at, below_from, onward}
use Rattle.theory_costs.proofs.Integers.{test_both}
use Rattle.theory_costs.proofs.Relative.{value_from, from_step, from_wait, from_ext}
use Rattle.theory_costs.proofs.Choosing.{onward_sum, base_sum}
use Rattle.promises.specs.CostOperations.{is_below}
use Rattle.promises.specs.CostSound.{from}

-- 1 for yes, 0 for no
abbrev bit : Bool → Phrase
bit t = says (cond t 1 0)

module _ (N : List (Node costs)) (k : ℕ) where
  -- THE BRANCH at v of the rule
  pub below_step : (t u : Target costs) (d : ℤ) (v : ℕ) (s : List ℕ) →
      below_from N k t u d (v ∷ s) ≡ below_from N (suc k) (branch_at N k t v).to (branch_at N k u v).to (onward d (branch_at N k t v).adds (branch_at N k u v).adds) s
  below_step t u d v s =
      ap bit ((λ i. lt_z (from_step N k t v s i).off (d +ℤ (from_step N k u v s i).off))
      ∙ ap (lt_z (a +ℤ x)) (onward_sum d a b y)
      ∙ test_both a x (onward d a b +ℤ y))
    where
      a : ℤ
      a = (branch_at N k t v).adds

      b : ℤ
      b = (branch_at N k u v).adds

      x : ℤ
      x = (from N (suc k) (branch_at N k t v).to s).off

      y : ℤ
      y = (from N (suc k) (branch_at N k u v).to s).off

  pub below_wait : (t u : Target costs) (d : ℤ) → Under N (length N) (suc k) t → Under N (length N) (suc k) u → (v : ℕ) (s : List ℕ) → below_from N k t u d (v ∷ s) ≡ below_from N (suc k) t u d s
  below_wait t u d o1 o2 v s = λ i. bit (lt_z (from_wait N k t v s o1 i).off (d +ℤ (from_wait N k u v s o2 i).off))

  pub below_ext : (S : List ℕ) (M : List (Node costs)) → WellFormed S N → Ext N M → (t u : Target costs) (d : ℤ) → Under N (length N) k t → Under N (length N) k u → (s : List ℕ)
      → below_from M k t u d s ≡ below_from N k t u d s
  below_ext S M w e t u d o1 o2 s = λ i. bit (lt_z (from_ext N k S w M e t s o1 i).off (d +ℤ (from_ext N k S w M e u s o2 i).off))

  -- with bases
  pub below_split : (b c : Branch costs) (s : List ℕ) → is_below (value N k b) (value N k c) s ≡ below_from N k b.to c.to (c.adds -ℤ b.adds) s
  below_split b c s =
      ap bit ((λ i. lt_z (value_from N k b s i) (value_from N k c s i))
      ∙ ap (lt_z (b.adds +ℤ (from N k b.to s).off)) (base_sum b.adds c.adds (from N k c.to s).off)
      ∙ test_both b.adds (from N k b.to s).off ((c.adds -ℤ b.adds) +ℤ (from N k c.to s).off))

  -- of equal targets, as where both have ended, the difference decides
  pub below_same : (t : Target costs) (d : ℤ) (s : List ℕ) → below_from N k t t d s ≡ says (cond (lt_z (pos 0) d) 1 0)
  below_same t d s =
      let x : ℤ = (from N k t s).off in
      ap bit ((λ i. lt_z (sym (+ℤ_idr x) i) (+ℤ_comm d x i)) ∙ test_both x (pos 0) d)
