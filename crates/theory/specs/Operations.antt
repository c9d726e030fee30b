-- Operations on several branches, and a feature held at a value, as functions. Assumes nothing.
use Rattle.std.specs.Prelude.{List, [], ◌∷◌, map, ℕ, set}
use Rattle.theory.specs.Kind.{Kind}
use Rattle.theory.specs.Functions.{Amount, Fun}
use Rattle.theory.specs.Diagrams.{Branch, Node, value}
use Rattle.theory.specs.WellFormed.{Ok}

module _ {K : Kind} where
  -- at each setting F of the operands' amounts, whose nodes are read in N
  abbrev pub result : (List (Amount K) → Amount K) → List (Node K) → ℕ → List (Branch K) → Fun K
  result F N k bs = λ s. F (map (λ (b : Branch K). value N k b s) bs)

  -- operands that may stand where features k and up are left
  abbrev pub Oks : List (Node K) → ℕ → List (Branch K) → Type 0
  Oks N k [] = Unit {0}
  Oks N k (b ∷ bs) = Ok N k b × Oks N k bs

  -- feature j of those that are left, held at v
  abbrev pub restricted : ℕ → ℕ → Fun K → Fun K
  restricted j v g = λ s. g (set s j v)
