-- Both kinds compute: the scope's a, b, c and P, Q, P + Q over sizes 2, 3, with their numbers of rests, a's count of 1s, and the features that they ask. Assumes nothing.
use mathlib.Core.Path.{◌≡◌, refl}
use mathlib.Core.List.{List, [], ◌∷◌}
use Prim.Native.Nat.{ℕ, ◌+◌, ◌*◌}
use native.Mathlib.Decide.{ℕ_discrete}
use lib.ListN.{length, get_or}
use lib.IntN.{pos, negsuc}
use Rattle.theory.specs.Kind.{Kind}
use Rattle.theory.specs.Functions.{Amount, Fun, zero_fun}
use Rattle.theory.specs.Comparing.{node_discrete}
use Rattle.theory.specs.Build.{build, table}
use Rattle.theory.specs.Tally.{tally}
use Rattle.theory.specs.Rules.{unit_discrete, rules, Rule, says, phrase, node}
use Rattle.theory.specs.Counted.{count_of}
use Rattle.theory.specs.Questions.{asked}
use Rattle.theory.specs.Costs.{int_discrete, Cost, amount, to_end, to_node}

sizes : List ℕ
sizes = 2 ∷ 3 ∷ []

-- the function that gives the six settings, in order, the amounts of the list
six : {K : Kind} → List (Amount K) → Fun K
six t [] = zero_fun []
six t (x ∷ []) = zero_fun []
six t (x ∷ y ∷ s) = get_or t (x * 3 + y) (zero_fun [])

a : Rule
unfolding six
a = six (says 1 ∷ says 0 ∷ says 1 ∷ says 1 ∷ says 0 ∷ says 1 ∷ [])

b : Rule
unfolding six
b = six (says 0 ∷ says 0 ∷ says 0 ∷ says 1 ∷ says 1 ∷ says 1 ∷ [])

c : Rule
unfolding six
c = six (says 0 ∷ says 0 ∷ says 0 ∷ says 1 ∷ says 0 ∷ says 1 ∷ [])

P : Cost
unfolding six
P = six (amount (pos 10) ∷ amount (pos 10) ∷ amount (pos 10) ∷ amount (pos 4) ∷ amount (pos 4) ∷ amount (pos 4) ∷ [])

Q : Cost
unfolding six
Q = six (amount (pos 0) ∷ amount (pos 5) ∷ amount (negsuc 2) ∷ amount (pos 0) ∷ amount (pos 5) ∷ amount (negsuc 2) ∷ [])

PAndQ : Cost
unfolding six
PAndQ = six (amount (pos 10) ∷ amount (pos 15) ∷ amount (pos 7) ∷ amount (pos 4) ∷ amount (pos 9) ∷ amount (pos 1) ∷ [])

-- c's diagram: feature 1 at node 0, feature 0 at node 1
c_nodes : build 0 sizes c []
    ≡ (
      node 1,
      record { feature = 1; branches = phrase 1 ∷ phrase 0 ∷ phrase 1 ∷ [] } ∷ record { feature = 0; branches = phrase 0 ∷ node 0 ∷ [] } ∷ [],
    )
unfolding build node_discrete ℕ_discrete unit_discrete sizes c
c_nodes = refl

-- P + Q's diagram: the base 10 goes to the root, branch 1 of feature 0 adds -6
sum_nodes : build 0 sizes PAndQ []
    ≡ (
      to_node (pos 10) 1,
      record { feature = 1; branches = to_end (pos 0) ∷ to_end (pos 5) ∷ to_end (negsuc 2) ∷ [] }
          ∷ record { feature = 0; branches = to_node (pos 0) 0 ∷ to_node (negsuc 5) 0 ∷ [] }
          ∷ [],
    )
unfolding build node_discrete ℕ_discrete unit_discrete int_discrete sizes PAndQ
sum_nodes = refl

-- distinct rests, counted from the functions: a 1, c 2, the three together 3; P + Q 2, the three together 3
rests_of_rules : (tally sizes (a ∷ []) ≡ 1) × (tally sizes (c ∷ []) ≡ 2) × (tally sizes (a ∷ b ∷ c ∷ []) ≡ 3)
unfolding tally ℕ_discrete unit_discrete sizes a b c
rests_of_rules = (refl, refl, refl)

rests_of_costs : (tally sizes (PAndQ ∷ []) ≡ 2) × (tally sizes (P ∷ Q ∷ PAndQ ∷ []) ≡ 3)
unfolding tally ℕ_discrete unit_discrete int_discrete sizes P Q PAndQ
rests_of_costs = (refl, refl)

-- four settings of a have number 1
ones_of_a : count_of sizes a 1 ≡ 4
unfolding count_of ℕ_discrete sizes a
ones_of_a = refl

-- features asked: c feature 0 alone where that is 0, and both where it is 1; a feature 1 alone; a constant none
asked_of_rules : (asked sizes c (0 ∷ 2 ∷ []) ≡ 1) × (asked sizes c (1 ∷ 2 ∷ []) ≡ 2) × (asked sizes a (1 ∷ 0 ∷ []) ≡ 1) × (asked sizes (zero_fun {K = rules}) (1 ∷ 0 ∷ []) ≡ 0)
unfolding asked ℕ_discrete unit_discrete sizes a c
asked_of_rules = (refl, refl, refl, refl)

-- P feature 0 alone, though P is nowhere 0; P + Q both
asked_of_costs : (asked sizes P (1 ∷ 2 ∷ []) ≡ 1) × (asked sizes PAndQ (1 ∷ 2 ∷ []) ≡ 2)
unfolding asked ℕ_discrete unit_discrete int_discrete sizes P PAndQ
asked_of_costs = (refl, refl)

-- and the same numbers of nodes are built
nodes_of_both : (length (table sizes (a ∷ b ∷ c ∷ [])).1 ≡ 3) × (length (table sizes (P ∷ Q ∷ PAndQ ∷ [])).1 ≡ 3)
unfolding build node_discrete ℕ_discrete unit_discrete int_discrete sizes a b c P Q PAndQ
nodes_of_both = (refl, refl)
