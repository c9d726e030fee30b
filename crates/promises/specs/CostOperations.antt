-- The scope's operations on costs: what each gives at a setting. Assumes nothing.
use Rattle.std.specs.Prelude.{cond, List, ℕ, zero, suc, ℤ, pos, ◌+ℤ◌, ◌-ℤ◌, ◌*ℤ◌, get_or}
use Rattle.std.specs.Int.Signed.{lt_z}
use Rattle.theory.specs.Rules.{Rule, says}
use Rattle.theory.specs.Costs.{Cost, amount}

unfoldable pub smaller_of : ℤ → ℤ → ℤ
smaller_of x y = cond (lt_z y x) y x

unfoldable pub larger_of : ℤ → ℤ → ℤ
larger_of x y = cond (lt_z x y) y x

-- where a rule's number is not 0 the first, else the second
abbrev pub chosen_of : ℕ → ℤ → ℤ → ℤ
chosen_of zero x y = y
chosen_of (suc n) x y = x

-- CONSTANT
abbrev pub constant : ℤ → Cost
constant a = λ s. amount a

-- PRICE LIST of feature k: a price for each of its values
abbrev pub priced : ℕ → List ℤ → Cost
priced k prices = λ s. amount (get_or prices (get_or s k 0) (pos 0))

-- two costs joined by an operation on integers
abbrev pub joined : (ℤ → ℤ → ℤ) → Cost → Cost → Cost
joined F f g = λ s. amount (F (f s).off (g s).off)

-- ADD, SUBTRACT, SMALLER, LARGER
abbrev pub sum : Cost → Cost → Cost
sum f g = joined ◌+ℤ◌ f g

abbrev pub difference : Cost → Cost → Cost
difference f g = joined ◌-ℤ◌ f g

abbrev pub smaller : Cost → Cost → Cost
smaller f g = joined smaller_of f g

abbrev pub larger : Cost → Cost → Cost
larger f g = joined larger_of f g

-- SCALE by the integer c
abbrev pub scaled : ℤ → Cost → Cost
scaled c f = λ s. amount ((f s).off *ℤ c)

-- CHOOSE: where the rule g is not 0 the first cost, else the second
abbrev pub chosen : Rule → Cost → Cost → Cost
chosen g f h = λ s. amount (chosen_of (g s).end (f s).off (h s).off)

-- LESS: the rule that is 1 where the first cost is below the second, else 0
abbrev pub is_below : Cost → Cost → Rule
is_below f g = λ s. says (cond (lt_z (f s).off (g s).off) 1 0)
