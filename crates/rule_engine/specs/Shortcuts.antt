-- Contract between layers: operators that may be asked of the branch words themselves: whatever number each node stands for, the word told stands for the operator's. Assumes nothing.
use Rattle.std.specs.Prelude.{◌≡◌, List, ℕ, ◌≤◌, ◌<◌}
use Rattle.table_words.specs.Words.{listed}
use Rattle.rule_operators.specs.Operators.{op_of}
use Rattle.promises.specs.Tab.{tab}
use Rattle.promises.specs.Operators.{pair_of}

-- a number for each branch word; a phrase stands for itself
pub record Standing (F : ℕ → ℕ) : Type 0 where
  pub itself : (p : ℕ) → p < 65536 → F p ≡ p

-- apply
pub record ShortPair (o x y : ℕ) : Type 0 where
  pub says : (F : ℕ → ℕ) → Standing F → F (pair_of o x y) ≡ pair_of o (F x) (F y)

-- any operator, where no feature is forgotten: x and y are the first two words
pub record Short (o f x y : ℕ) : Type 0 where
  pub none : 16 ≤ f
  pub says : (l : List ℕ) → listed l 0 ≡ x → listed l 1 ≡ y → (n : ℕ) → 2 ≤ n → (F : ℕ → ℕ) → Standing F → F (op_of o (tab (listed l) n)) ≡ op_of o (tab (λ j. F (listed l j)) n)
