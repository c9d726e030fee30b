-- Contract between layers: the operators on phrase numbers: the five of apply by number and CASE, and what forgetting leaves. Assumes nothing.
use Rattle.std.specs.Prelude.{List, ℕ, ltb, eqb, get_or, drop}
use Rattle.rule_operators.specs.declared.Operator.{Operator}
use Rattle.rule_operators.specs.declared.Operator.TheVariants.{Smaller, Larger, Equal, Less, Differ, Case, Forget}
use Rattle.promises.specs.Operators.{pair_of, case_of, forgotten_of}
use Rattle.promises.specs.Words.{pick}

-- the engine's operator o on a list: up to 5 apply's, on the first two; 6 CASE, the first chooses among the others; else forget
unfoldable pub op_of : ℕ → List ℕ → ℕ
op_of o l =
    pick (ltb o 6) (pair_of o (get_or l 0 0) (get_or l 1 0))
    (pick (eqb o 6) (case_of (get_or l 0 0) (drop 1 l))
    (forgotten_of l))

-- the number of the code's operator
abbrev pub number_of : Operator → ℕ
number_of Smaller = 1
number_of Larger = 2
number_of Equal = 3
number_of Less = 4
number_of Differ = 5
number_of Case = 6
number_of (Forget f) = 7

-- the feature that it forgets; 16, more than any, where it forgets none
abbrev pub forgotten_by : Operator → ℕ
forgotten_by Smaller = 16
forgotten_by Larger = 16
forgotten_by Equal = 16
forgotten_by Less = 16
forgotten_by Differ = 16
forgotten_by Case = 16
forgotten_by (Forget f) = f
