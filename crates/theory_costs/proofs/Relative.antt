-- Below a target, without the base: one step, a feature that is not tested, all zeros, the end, a longer list. Assumes nothing.
use mathlib.Core.Path.{◌≡◌, ap, ◌∙◌}
use mathlib.Core.List.{List, ◌∷◌}
use Prim.Native.Nat.{ℕ, suc}
use lib.IntN.{pos, ◌+ℤ◌, +ℤ_idl}
use lib.ListN.{length, get_or}
use Rattle.theory.specs.Settings.{zeros}
use Rattle.theory.specs.Functions.{Amount, lift}
use Rattle.theory.specs.Diagrams.{Branch, Node, Target, at, blank, leaf, node, value}
use Rattle.theory.specs.WellFormed.{Under, WellFormed}
use Rattle.theory.specs.Build.{Ext}
use Rattle.theory.specs.Costs.{amount, costs}
use Rattle.theory.proofs.Values.{next_here, next_ok, next_wait, value_ending, value_ext, value_next, value_split, value_wait, value_zeros}
use Rattle.theory_costs.specs.Relative.{branch_at}
use Rattle.theory_costs.proofs.Walks.{Walk}
use Rattle.promises.specs.CostSound.{bare, from}

-- equal amounts are equal integers
pub offs : {x y : Amount costs} → x ≡ y → x.off ≡ y.off
offs e = ap (λ (z : Amount costs). z.off) e

module _ (N : List (Node costs)) (k : ℕ) where
  -- a branch costs what it adds, and what lies below its target
  pub value_from : (b : Branch costs) (s : List ℕ) → (value N k b s).off ≡ b.adds +ℤ (from N k b.to s).off
  value_from b s = offs (value_split N k b s)

  -- at v a target adds what its branch adds, and goes on where that goes
  pub from_step : (t : Target costs) (v : ℕ) (s : List ℕ) → from N k t (v ∷ s) ≡ lift (branch_at N k t v).adds (from N (suc k) (branch_at N k t v).to s)
  from_step t v s = value_next N k (bare t) v s ∙ value_split N (suc k) (branch_at N k t v) s

  pub from_wait : (t : Target costs) (v : ℕ) (s : List ℕ) → Under N (length N) (suc k) t → from N k t (v ∷ s) ≡ from N (suc k) t s
  from_wait t v s o = value_wait N k (bare t) v s o

  pub from_end : (s : List ℕ) → from N k (leaf tt) s ≡ amount (pos 0)
  from_end s = value_ending N k (amount (pos 0)) s

  -- nothing is added where all features that are left are 0
  pub from_zeros : (S : List ℕ) → WellFormed S N → (ns : List ℕ) (t : Target costs) → Under N (length N) k t → (from N k t (zeros ns)).off ≡ pos 0
  from_zeros S w ns t o = value_zeros S N w k ns (bare t) o

  pub from_ext : (S : List ℕ) → WellFormed S N → (M : List (Node costs)) → Ext N M → (t : Target costs) (s : List ℕ) → Under N (length N) k t → from M k t s ≡ from N k t s
  from_ext S w M e t s o = value_ext S N M k (bare t) s w e o

  pub branch_wait : (t : Target costs) (v : ℕ) → Under N (length N) (suc k) t → branch_at N k t v ≡ bare t
  branch_wait t v o = next_wait N k (bare t) v o

  -- a node of feature k goes to its branch
  pub branch_here : (i v : ℕ) → (at N i).feature ≡ k → branch_at N k (node i) v ≡ get_or (at N i).branches v blank
  branch_here i v e =
      next_here N k i v (pos 0) e ∙ (λ j. record { adds = +ℤ_idl (get_or (at N i).branches v blank).adds j; to = (get_or (at N i).branches v blank).to })

  pub branch_under : (S : List ℕ) → WellFormed S N → (t : Target costs) (v : ℕ) → Under N (length N) k t → Under N (length N) (suc k) (branch_at N k t v).to
  branch_under S w t v o = next_ok S N w k (bare t) v o

-- the walk of one target
abbrev pub single : List (Node costs) → Walk
single N =
    record {
      State = Target costs;
      run = λ k t. from N k t;
      gives = λ k t v. (branch_at N k t v).adds;
      goes = λ k t v. (branch_at N k t v).to;
      steps = λ k t v s. from_step N k t v s;
    }
