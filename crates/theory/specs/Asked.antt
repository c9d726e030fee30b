-- How many features are asked at a setting, of a rule or a cost as a function. Assumes nothing.
use Rattle.std.specs.Prelude.{◌≡◌, ◌⊎◌, List, ℕ, zero, suc, length, take, drop}
use Rattle.theory.specs.Kind.{Kind}
use Rattle.theory.specs.Functions.{Fun}
use Rattle.theory.specs.Rests.{Depends, after}

-- a of the numbers below n have the property P
abbrev pub NumberOf : (ℕ → Type 0) → ℕ → ℕ → Type 0
NumberOf P zero a = a ≡ 0
NumberOf P (suc n) a = (P n × ((b : ℕ) × (a ≡ suc b) × NumberOf P n b)) ⊎ ((P n → ⊥) × NumberOf P n a)

module _ {K : Kind} where
  -- what is left of g with the features below k fixed as in s
  abbrev pub left_at : Fun K → List ℕ → ℕ → Fun K
  left_at g s k = after (take k s) g

  -- feature k is asked at the setting s: what is left depends on k
  abbrev pub Asks : List ℕ → Fun K → List ℕ → ℕ → Type 0
  Asks S g s k = Depends (drop k S) (left_at g s k)

  -- a features are asked
  pub record Asked (S : List ℕ) (g : Fun K) (s : List ℕ) (a : ℕ) : Type 0 where
    pub number : NumberOf (Asks S g s) (length S) a
