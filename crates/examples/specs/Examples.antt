-- The starred examples of docs/SCOPE.md over sizes 2, 3, rules and costs: one list of statements, in the very definitions of the promises. Assumes nothing.
use Rattle.std.specs.Prelude.{◌≡◌, List, [], ◌∷◌, map, ℕ, ℤ, pos, negsuc}
use Rattle.theory.specs.Counted.{settings_of, count_of}
use Rattle.theory.specs.First.{FirstFrom}
use Rattle.theory.specs.Operations.{restricted}
use Rattle.theory.specs.Rests.{Counts}
use Rattle.theory.specs.Rules.{rules, Rule, says}
use Rattle.theory.specs.Costs.{costs, Cost}
use Rattle.settings.specs.Refusals.{number_of, Cases, Ends}
use Rattle.settings.specs.declared.refusals.Refusal.{Refusal}
use Rattle.settings.specs.Refusals.{Refused}
use Rattle.promises.specs.Operators.{literal_of, set_size}
use Rattle.promises.specs.CostOperations.{is_below, priced, sum}
use Rattle.promises.specs.Lowest.{Lowest}
use Rattle.promises.specs.State.{State, state}
use Rattle.promises.specs.RuleDeeds.{case_rule, case, applied, without, next_with}
use Rattle.promises.specs.BothDeeds.{lowest}

unfoldable pub sizes : List ℕ
sizes = 2 ∷ 3 ∷ []

-- ---- rules
unfoldable pub a : Rule
a = literal_of 1 5

unfoldable pub b : Rule
b = literal_of 0 2

-- the smaller of a and b
unfoldable pub c : Rule
unfolding a b
c = applied 1 a b

-- the constant n, and 1 where feature 0 is 0
abbrev pub always : ℕ → Rule
always n = λ s. says n

unfoldable pub where_zero : Rule
where_zero = literal_of 0 1

-- a table with b, the constant 7, a and c on its first places
unfoldable pub shelf : State rules
unfolding a b c
shelf = state 8 sizes (b ∷ always 7 ∷ a ∷ c ∷ [])

-- ---- costs: P prices feature 0, Q feature 1
unfoldable pub P : Cost
P = priced 0 (pos 10 ∷ pos 4 ∷ [])

unfoldable pub Q : Cost
Q = priced 1 (pos 0 ∷ pos 5 ∷ negsuc 2 ∷ [])

abbrev pub PAndQ : Cost
PAndQ = sum P Q

-- a rule table with the constant 0 and a cost table with P + Q on place 0
unfoldable pub shelves : State rules × State costs
unfolding P Q
shelves = (state 8 sizes (always 0 ∷ []), state 8 sizes (PAndQ ∷ []))

-- ---- a call with the refusals l ends with the number n
abbrev pub RefusedAs : ℕ → Cases → Type 0
RefusedAs n l = (x : Refusal) × Ends l (Refused x) × (number_of x ≡ n)

-- ---- what a rule and a cost give the six settings, in order
unfoldable pub numbers : Rule → List ℕ
unfolding sizes
numbers g = map (λ s. (g s).end) (settings_of sizes)

unfoldable pub amounts : Cost → List ℤ
unfolding sizes
amounts f = map (λ s. (f s).off) (settings_of sizes)

module _ {A : Type 0} where
  unfoldable pub six : A → A → A → A → A → A → List A
  six m n o p q r = m ∷ n ∷ o ∷ p ∷ q ∷ r ∷ []

-- THE LIST
unfoldable pub examples : List (Type 0)
examples =
    (numbers a ≡ six 1 0 1 1 0 1)
    ∷ (set_size 3 5 ≡ 2)
    ∷ (count_of sizes a 1 ≡ 4)
    ∷ Counts sizes (a ∷ []) 1
    ∷ (numbers b ≡ six 0 0 0 1 1 1)
    ∷ (numbers c ≡ six 0 0 0 1 0 1)
    ∷ Counts sizes (c ∷ []) 2
    ∷ (numbers (restricted 0 1 c) ≡ numbers a)
    ∷ (numbers (restricted 0 0 c) ≡ numbers (always 0))
    ∷ (numbers (without 1 3 c) ≡ numbers b)
    ∷ (numbers (case_rule shelf 0 (1 ∷ 2 ∷ [])) ≡ six 7 7 7 1 0 1)
    ∷ RefusedAs 7 ((case 4 2 (0 ∷ [])).cases shelf)
    ∷ FirstFrom sizes c 1 (1 ∷ 1 ∷ []) (1 ∷ 2 ∷ [])
    ∷ RefusedAs 11 ((next_with 3 2 (0 ∷ 0 ∷ [])).cases shelf)
    ∷ (amounts PAndQ ≡ six (pos 10) (pos 15) (pos 7) (pos 4) (pos 9) (pos 1))
    ∷ Counts sizes (PAndQ ∷ []) 2
    ∷ Counts sizes (P ∷ Q ∷ PAndQ ∷ []) 3
    ∷ Lowest sizes PAndQ (always 1) (pos 1) (1 ∷ 2 ∷ [])
    ∷ Lowest sizes PAndQ where_zero (pos 7) (0 ∷ 2 ∷ [])
    ∷ RefusedAs 11 ((lowest 0 0).cases shelves)
    ∷ (numbers (is_below PAndQ P) ≡ six 0 0 1 0 0 1)
    ∷ []

-- every statement of a list
unfoldable pub Hold : List (Type 0) → Type 0
Hold [] = Unit {0}
Hold (X ∷ l) = X × Hold l
