-- The starred examples hold. Assumes nothing.
use mathlib.Core.Path.{◌≡◌, refl, subst}
use mathlib.Core.List.{List, [], ◌∷◌}
use Prim.Native.Nat.{ℕ, zero, suc, ◌<◌}
use native.Mathlib.Decide.{ℕ_discrete}
use native.Mathlib.Omega.{arith}
use lib.IntN.{pos}
use lib.ListN.{get_or}
use Rattle.theory.specs.Kind.{Kind}
use Rattle.theory.specs.Functions.{Fun}
use Rattle.theory.specs.Counted.{settings_of, count_of}
use Rattle.theory.specs.Rests.{Counts}
use Rattle.theory.specs.Tally.{tally}
use Rattle.theory.specs.Rules.{unit_discrete}
use Rattle.theory.specs.Costs.{int_discrete}
use Rattle.theory.proofs.Counting.{tally_counts}
use Rattle.settings.specs.declared.refusals.Refusal.TheVariants.{None}
use Rattle.settings.proofs.Endings.{stop, pass}
use Rattle.promises.specs.Tab.{tab}
use Rattle.promises.specs.Operators.{pair_of, case_of, forgotten_of, bit_of, set_size}
use Rattle.promises.specs.Lowest.{Lowest, NoneMarked}
use Rattle.promises.specs.BothDeeds as D
use Rattle.theory_costs.specs.Spots.{lowest}
use Rattle.theory_costs.proofs.Spots.{lowest_right}
use Rattle.examples.specs.Examples.{sizes, a, b, c, shelf, always, where_zero, P, Q, PAndQ, shelves, RefusedAs, numbers, amounts, six, examples, Hold}
use Rattle.examples.proofs.Nexts.{c_numbers, refused_selector, next_one, refused_none}

-- LOWEST of P + Q over the constant 1, where feature 0 is 0, and over the constant 0
low_of_all : Lowest sizes PAndQ (always 1) (pos 1) (1 ∷ 2 ∷ [])
unfolding lowest sizes P Q
low_of_all = lowest_right sizes PAndQ (always 1)

low_of_some : Lowest sizes PAndQ where_zero (pos 7) (0 ∷ 2 ∷ [])
unfolding lowest sizes P Q where_zero bit_of
low_of_some = lowest_right sizes PAndQ where_zero

low_of_none : NoneMarked sizes (always 0)
unfolding lowest sizes P Q
low_of_none = lowest_right sizes PAndQ (always 0)

refused_lowest : RefusedAs 11 ((D.lowest 0 0).cases shelves)
unfolding shelves
refused_lowest = (None, pass (λ n. n (record { each = rule_place }, record { each = cost_place })) (pass (λ n. n refl) (stop low_of_none)), refl)
  where
    rule_place : (j : ℕ) → j < 1 → get_or (0 ∷ []) j 0 < 32
    rule_place zero h = omega arith
    rule_place (suc j) h = omega arith

    cost_place : (j : ℕ) → j < 1 → get_or (0 ∷ []) j 0 < 16
    cost_place zero h = omega arith
    cost_place (suc j) h = omega arith

-- the rests, counted
module _ {K : Kind} where
  counted : (S : List ℕ) (gs : List (Fun K)) (n : ℕ) → tally S gs ≡ n → Counts S gs n
  counted S gs n e = subst (Counts S gs) e (tally_counts S gs)

-- ALL HOLD
pub examples_hold : Hold examples
unfolding Hold examples numbers amounts six settings_of sizes c a b shelf pair_of bit_of set_size count_of tally forgotten_of case_of tab P Q ℕ_discrete unit_discrete int_discrete
examples_hold = (
  refl,
  (
    refl,
    (
      refl,
      (
        counted sizes (a ∷ []) 1 refl,
        (
          refl,
          (
            c_numbers,
            (
              counted sizes (c ∷ []) 2 refl,
              (
                refl,
                (
                  refl,
                  (
                    refl,
                    (
                      refl,
                      (
                        refused_selector,
                        (next_one, (refused_none, (refl, (counted sizes (PAndQ ∷ []) 2 refl, (counted sizes (P ∷ Q ∷ PAndQ ∷ []) 3 refl, (low_of_all, (low_of_some, (refused_lowest, (refl, tt))))))))),
                      ),
                    ),
                  ),
                ),
              ),
            ),
          ),
        ),
      ),
    ),
  ),
)
