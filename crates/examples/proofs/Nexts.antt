-- The examples of next and of BAD SELECTOR, in the rules a and c. Assumes nothing.
use mathlib.Core.Path.{◌≡◌, refl, sym, ap, ◌∙◌}
use mathlib.Core.Logic.{inl, inr, ⊎_elim}
use mathlib.Core.List.{List, [], ◌∷◌}
use Prim.Native.Nat.{ℕ, zero, suc, ◌≤◌, ◌<◌}
use native.Mathlib.Decide.{ℕ_discrete}
use native.Mathlib.Omega.{arith}
use lib.ListN.{get_or}
use Rattle.theory.specs.Settings.{Valid, product, sooner, later}
use Rattle.theory.specs.Counted.{settings_of, Reaches}
use Rattle.theory.specs.First.{From, FirstFrom, NoneFrom}
use Rattle.theory.specs.Rules.{Rule}
use Rattle.theory.proofs.Lists.{get_or_map_in}
use Rattle.theory.proofs.Rank.{rank, rank_below, rank_order}
use Rattle.theory.proofs.Counted.{settings_length, settings_at}
use Rattle.settings.specs.declared.refusals.Refusal.TheVariants.{BadSelector, None}
use Rattle.settings.proofs.Endings.{stop, pass}
use Rattle.promises.specs.RuleDeeds.{case, next_with}
use Rattle.examples.specs.Examples.{sizes, a, b, c, shelf, RefusedAs, numbers, six}
use Rattle.promises.specs.Operators.{pair_of, bit_of}

-- a setting's number stands in the list at its rank
number_at : (g : Rule) (u : List ℕ) → Valid sizes u → (g u).end ≡ get_or (numbers g) (rank sizes u) 0
unfolding numbers
number_at g u v =
    sym (get_or_map_in (λ s. (g s).end) [] 0 (settings_of sizes) (rank sizes u) (omega (arith, settings_length sizes, rank_below sizes u v)) ∙ ap (λ (s : List ℕ). (g s).end) (settings_at sizes u v))

-- the numbers of c
abbrev told : List ℕ
told = six 0 0 0 1 0 1

pub c_numbers : numbers c ≡ told
unfolding numbers six settings_of sizes c a b pair_of bit_of
c_numbers = refl

c_at : (u : List ℕ) → Valid sizes u → (c u).end ≡ get_or told (rank sizes u) 0
c_at u v = number_at c u v ∙ ap (λ (l : List ℕ). get_or l (rank sizes u) 0) c_numbers

at_most_one : (i : ℕ) → get_or told i 0 ≤ 1
unfolding six
at_most_one zero = omega arith
at_most_one (suc zero) = omega arith
at_most_one (suc (suc zero)) = omega arith
at_most_one (suc (suc (suc zero))) = omega arith
at_most_one (suc (suc (suc (suc zero)))) = omega arith
at_most_one (suc (suc (suc (suc (suc zero))))) = omega arith
at_most_one (suc (suc (suc (suc (suc (suc i)))))) = omega arith

ranks : (rank sizes (1 ∷ 1 ∷ []) ≡ 4) × (product sizes ≡ 6)
unfolding sizes
ranks = (refl, refl)

from_rank : (u : List ℕ) → Valid sizes u → From (1 ∷ 1 ∷ []) u → 4 ≤ rank sizes u
unfolding sizes
from_rank u v (inl e) = omega (arith, ap (rank (2 ∷ 3 ∷ [])) e)
from_rank u v (inr q) = omega (arith, rank_order (2 ∷ 3 ∷ []) q (omega arith, (omega arith, tt)) v)

last_of : get_or (settings_of sizes) 5 [] ≡ 1 ∷ 2 ∷ []
unfolding settings_of sizes
last_of = refl

not_four : ◌≡◌ {A = ℕ} 1 (get_or told 4 0) → ⊥
unfolding six
not_four z = omega arith

only : (u : List ℕ) → Valid sizes u → (i : ℕ) → rank sizes u ≡ i → (c u).end ≡ 1 → 4 ≤ i → From (1 ∷ 2 ∷ []) u
only u v i e g h = go (ℕ_discrete i 5)
  where
    below : i < 6
    below = omega (arith, rank_below sizes u v, ranks.1, e)

    go : Dec (i ≡ 5) → From (1 ∷ 2 ∷ []) u
    go (yes q) = inl (sym last_of ∙ ap (λ (n : ℕ). get_or (settings_of sizes) n []) (sym (e ∙ q)) ∙ settings_at sizes u v)
    go (no q) = absurd (not_four (let four : rank sizes u ≡ 4 = omega (arith, below) in sym g ∙ c_at u v ∙ ap (λ (n : ℕ). get_or told n 0) four))

-- the first setting at or after (1, 1) to which c gives 1 is (1, 2)
pub next_one : FirstFrom sizes c 1 (1 ∷ 1 ∷ []) (1 ∷ 2 ∷ [])
unfolding sizes c a b pair_of bit_of
next_one = record { valid = (omega arith, (omega arith, tt)); gives = refl; from = inr (later (sooner two refl)); least = least }
  where
    two : 1 < 2
    two = omega arith

    least : (u : List ℕ) → Valid (2 ∷ 3 ∷ []) u → (c u).end ≡ 1 → From (1 ∷ 1 ∷ []) u → From (1 ∷ 2 ∷ []) u
    least u v g f = only u v (rank sizes u) refl g (from_rank u v f)

none_two : NoneFrom sizes c 2 (0 ∷ 0 ∷ [])
none_two = record { none = λ u v g f. omega (arith, c_at u v, at_most_one (rank sizes u)) }

-- NONE: c gives 2 to no setting
pub refused_none : RefusedAs 11 ((next_with 3 2 (0 ∷ 0 ∷ [])).cases shelf)
unfolding shelf sizes
refused_none =
    (None, pass (λ n. n (record { each = each })) (pass (⊎_elim (λ h. omega arith) (λ h. h valid)) (stop none_two)), refl)
  where
    each : (j : ℕ) → j < 1 → get_or (3 ∷ []) j 0 < 32
    each zero h = omega arith
    each (suc j) h = omega arith

    valid : Valid sizes (0 ∷ 0 ∷ [])
    valid = (omega arith, (omega arith, tt))

-- BAD SELECTOR: a reaches the length of a list of one branch
reached : Reaches sizes a 1
unfolding sizes a bit_of
reached = record { setting = 0 ∷ 0 ∷ []; valid = (omega arith, (omega arith, tt)); holds = omega arith }

pub refused_selector : RefusedAs 7 ((case 4 2 (0 ∷ [])).cases shelf)
unfolding shelf
refused_selector = (BadSelector, pass (λ n. n (record { each = each })) (pass (⊎_elim (λ h. omega arith) (λ h. omega arith)) (stop reached)), refl)
  where
    each : (j : ℕ) → j < 3 → get_or (4 ∷ 2 ∷ 0 ∷ []) j 0 < 32
    each zero h = omega arith
    each (suc zero) h = omega arith
    each (suc (suc zero)) h = omega arith
    each (suc (suc (suc j))) h = omega arith
