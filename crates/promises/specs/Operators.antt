-- The operators on phrase numbers: the five of apply by number, CASE, what forgetting leaves, and the sets of literals. Assumes nothing.
use Rattle.std.specs.Prelude.{Bool, not, List, [], ◌∷◌, ℕ, zero, suc, ◌+◌, ◌^◌, ◌/◌, ◌%◌, ltb, eqb, get_or}
use Rattle.theory.specs.Rules.{Rule, says}
use Rattle.promises.specs.Words.{pick}

abbrev pub lesser_of : ℕ → ℕ → ℕ
lesser_of x y = pick (ltb x y) x y

abbrev pub greater_of : ℕ → ℕ → ℕ
greater_of x y = pick (ltb x y) y x

-- 1 for yes, 0 for no
abbrev pub truth_of : Bool → ℕ
truth_of b = pick b 1 0

-- APPLY, by operator number: 1 smaller, 2 larger, 3 equal, 4 less, 5 differ; the last three give 1 or 0
unfoldable pub pair_of : ℕ → ℕ → ℕ → ℕ
pair_of o x y =
    pick (eqb o 1) (lesser_of x y)
    (pick (eqb o 2) (greater_of x y)
    (pick (eqb o 3) (truth_of (eqb x y))
    (pick (eqb o 4) (truth_of (ltb x y))
    (truth_of (not (eqb x y))))))

-- CASE: of the branches' numbers, the one whose index is the selector's number; 0 past the list
unfoldable pub case_of : ℕ → List ℕ → ℕ
case_of i l = get_or l i 0

-- two numbers as one: 0 gives way, equal numbers stay, and two that differ are 65,535
abbrev pub merged_of : ℕ → ℕ → ℕ
merged_of x y = pick (eqb x 0) y (pick (eqb y 0) x (pick (eqb x y) x 65535))

-- FORGET: what stands for the numbers over the values of the forgotten feature: 0 where no other occurs, the other where one does, else 65,535
unfoldable pub forgotten_of : List ℕ → ℕ
forgotten_of [] = 0
forgotten_of (x ∷ l) = merged_of x (forgotten_of l)

-- ---- LITERAL
-- bit v of x: 1 where the value v is in the set x, else 0
unfoldable pub bit_of : ℕ → ℕ → ℕ
bit_of x v = x / 2 ^ v % 2

-- 1 where the value of feature f is in the set x, else 0
abbrev pub literal_of : ℕ → ℕ → Rule
literal_of f x = λ s. says (bit_of x (get_or s f 0))

-- how many values below n are in the set x
unfoldable pub set_size : ℕ → ℕ → ℕ
unfolding bit_of
set_size zero x = 0
set_size (suc n) x = set_size n x + bit_of x n
