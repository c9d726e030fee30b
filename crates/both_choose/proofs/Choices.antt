-- The choice of two targets: one value on, a feature that none of the three tests, a longer list, where the rule has ended, and its range. Assumes nothing.
use mathlib.Core.Path.{◌≡◌, ◌∙◌}
use mathlib.Core.List.{List, ◌∷◌}
use Prim.Native.Nat.{ℕ, suc, ◌<◌}
use lib.IntN.{ℤ, ◌+ℤ◌}
use lib.ListN.{length, drop}
use Rattle.theory.specs.Build.{Ext, build}
use Rattle.theory.specs.Costs.{amount, costs}
use Rattle.theory.specs.Diagrams.{Node, Target}
use Rattle.theory.specs.Functions.{held, lift}
use Rattle.theory.specs.Rules.{Rule, says}
use Rattle.theory.specs.Settings.{Pos}
use Rattle.theory.specs.WellFormed.{Under, WellFormed}
use Rattle.theory_costs.specs.Narrow.{Placed, Spread}
use Rattle.theory_costs.specs.Relative.{branch_at, onward}
use Rattle.theory_costs.proofs.Choosing.{Moves, chosen_moves, apart_step, apart_wait, apart_ext, apart_first, apart_second}
use Rattle.theory_costs.proofs.Placing.{Takes, placed_spread, placed_adds}
use Rattle.theory_costs.proofs.Range.{chosen_takes}
use Rattle.both_choose.specs.Choice.{by, choice, choice_of}
use Rattle.promises.specs.Integers.{Fit}
use Rattle.promises.specs.CostOperations.{chosen_of}
use Rattle.promises.specs.Range.{add_most, cost_most}
use Rattle.promises.specs.CostSound.{bare, from}

-- ---- the operation on integers
pub by_moves : (g : Rule) (s : List ℕ) → Moves (by g s)
by_moves g s = chosen_moves (g s).end

by_takes : (g : Rule) (s : List ℕ) → Takes (by g s)
by_takes g s = chosen_takes (g s).end

module _ (g : Rule) (N : List (Node costs)) (k : ℕ) (t u : Target costs) (d : ℤ) where
  -- one value on
  pub choice_step : (h : Rule) (v : ℕ) → ((s : List ℕ) → g (v ∷ s) ≡ h s) → (s : List ℕ) → choice g N k t u d (v ∷ s) ≡ choice_of h N (suc k) (branch_at N k t v) (branch_at N k u v) d s
  unfolding choice choice_of
  choice_step h v e s =
      apart_step (by g) (by_moves g) N k t u d v s
      ∙ (λ i. lift (branch_at N k t v).adds
      (amount (chosen_of (e s i).end (from N (suc k) (branch_at N k t v).to s).off (onward d (branch_at N k t v).adds (branch_at N k u v).adds +ℤ (from N (suc k) (branch_at N k u v).to s).off))))

  -- none of the three tests feature k
  pub choice_wait : (h : Rule) (v : ℕ) (s : List ℕ) → Under N (length N) (suc k) t → Under N (length N) (suc k) u → g (v ∷ s) ≡ h s → choice g N k t u d (v ∷ s) ≡ choice h N (suc k) t u d s
  unfolding choice
  choice_wait h v s p q e = apart_wait (by g) (by_moves g) N k t u d p q (by h) v s (λ x y i. chosen_of (e i).end x y)

  -- both may be read in a longer list
  pub choice_ext : (S : List ℕ) (M : List (Node costs)) → WellFormed S N → Ext N M → Under N (length N) k t → Under N (length N) k u → (s : List ℕ) → choice g M k t u d s ≡ choice g N k t u d s
  unfolding choice
  choice_ext S M w e p q s = apart_ext (by g) (by_moves g) S N M w e k t u d p q s

  -- the rule has ended: the first where its number is not 0, else the second
  module _ (S ns : List ℕ) (rest : drop k S ≡ ns) (ps : Pos ns) (w : WellFormed S N) where
    pub choice_first : (b : ℕ) → ((s : List ℕ) → g s ≡ says (suc b)) → Under N (length N) k t → build k ns (choice g N k t u d) N ≡ (bare t, N)
    unfolding choice
    choice_first b e p = apart_first S k ns rest ps N w (by g) t u d p (λ s v x y i. chosen_of (e s i).end x y)

    pub choice_second : ((s : List ℕ) → g s ≡ says 0) → Under N (length N) k u → build k ns (choice g N k t u d) N ≡ (record { adds = d; to = u }, N)
    unfolding choice
    choice_second e p = apart_second S k ns rest ps N w (by g) t u d p (λ s v x y i. chosen_of (e s i).end x y)

  -- its amounts lie close together
  pub choice_spread : (ns : List ℕ) → Placed cost_most ns N k t u d → Spread add_most ns (choice g N k t u d)
  unfolding choice
  choice_spread ns h = placed_spread N k (by g) (by_takes g) ns t u d h

  -- and so does what its branches add
  pub choice_adds : (S : List ℕ) → WellFormed S N → (n : ℕ) (ns : List ℕ) → drop k S ≡ n ∷ ns → Pos (n ∷ ns) → Under N (length N) k t → Placed cost_most (n ∷ ns) N k t u d → (v : ℕ) → v < n →
      Fit add_most (build (suc k) ns (held v (choice g N k t u d)) N).0.adds
  unfolding choice
  choice_adds S w n ns rest ps p h v l = placed_adds N k (by g) (by_takes g) S w n ns rest ps t u d p h v l N w
