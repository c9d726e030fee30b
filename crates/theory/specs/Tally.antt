-- Means of proof: the rests of a function listed, and the number of distinct rests of several: computed. `tally_counts` shows that it is the number of Rests. Assumes nothing.
use Rattle.std.specs.Prelude.{◌≡◌, ℕ, zero, suc, drop}
use mathlib.Core.List.{List, [], ◌∷◌, ◌++◌}
use Rattle.std.proofs.Math.Nat.{le_of_suc-le-suc, not-suc-le-zero}
use Rattle.std.proofs.Math.Decide.{ℕ_discrete}
use Rattle.std.proofs.Common.{arith}
use Rattle.std.proofs.Math.ListN.{length}
use Rattle.theory.specs.Kind.{Kind}
use Rattle.theory.specs.Deciding.{all_decided}
use Rattle.theory.specs.Functions.{Agree, Fun, held, parts}
use Rattle.theory.specs.Comparing.{agree_decided}
use Rattle.theory.specs.Rests.{Equal, Free, Rest, Seen, norm}

module _ {K : Kind} where
  -- whether a function depends on its first feature
  unfoldable pub free_decided : (n : ℕ) (ns : List ℕ) (g : Fun K) → Dec (Free n ns g)
  unfolding Free all_decided agree_decided
  free_decided n ns g = all_decided (λ v. agree_decided ns (held v g) (held 0 g)) n

  -- the function itself, if it depends on feature k
  unfoldable pub own : (k n : ℕ) (ns : List ℕ) (g : Fun K) → Dec (Free n ns g) → List (Rest K)
  own k n ns g (yes p) = []
  own k n ns g (no p) = record { level = k; function = norm (n ∷ ns) g } ∷ []

  -- the lists for the functions, joined
  abbrev pub flat : (Fun K → List (Rest K)) → List (Fun K) → List (Rest K)
  flat f [] = []
  flat f (g ∷ gs) = f g ++ flat f gs

  -- the rests of a function at k and up: those of its branches, and itself if it depends on feature k
  unfoldable pub rests : ℕ → List ℕ → Fun K → List (Rest K)
  unfolding own free_decided
  rests k [] g = []
  rests k (n ∷ ns) g = flat (λ h. rests (suc k) ns h) (parts 0 n g) ++ own k n ns g (free_decided n ns g)

  unfoldable pub equal_decided : (S : List ℕ) (x y : Rest K) → Dec (Equal S x y)
  unfolding agree_decided
  equal_decided S x y = go (ℕ_discrete x.level y.level) (agree_decided (drop x.level S) x.function y.function)
    where
      go : Dec (x.level ≡ y.level) → Dec (Agree (drop x.level S) x.function y.function) → Dec (Equal S x y)
      go (yes p) (yes q) = yes (record { levels = p; functions = q })
      go (yes p) (no q) = no (λ e. q e.functions)
      go (no p) d = no (λ e. p e.levels)

  unfoldable pub seen_decided : (S : List ℕ) (x : Rest K) (l : List (Rest K)) → Dec (Seen S x l)
  unfolding equal_decided
  seen_decided S x [] = no (λ w. not-suc-le-zero w.1)
  seen_decided S x (y ∷ l) = go (equal_decided S y x) (seen_decided S x l)
    where
      later : Seen S x (y ∷ l) → ¬ Equal S y x → Seen S x l
      later (zero, h, e) n = absurd (n e)
      later (suc i, h, e) n = (i, le_of_suc-le-suc h, e)

      go : Dec (Equal S y x) → Dec (Seen S x l) → Dec (Seen S x (y ∷ l))
      go (yes p) r = yes (0, omega arith, p)
      go (no p) (yes w) = yes (suc w.0, omega arith, w.2)
      go (no p) (no q) = no (λ w. q (later w p))

  -- x at the end of l, unless it stands there
  unfoldable pub add : (S : List ℕ) (l : List (Rest K)) (x : Rest K) → Dec (Seen S x l) → List (Rest K)
  add S l x (yes w) = l
  add S l x (no w) = l ++ (x ∷ [])

  -- l, with each of xs that is not there yet added at its end
  unfoldable pub gather : List ℕ → List (Rest K) → List (Rest K) → List (Rest K)
  unfolding add seen_decided
  gather S l [] = l
  gather S l (x ∷ xs) = gather S (add S l x (seen_decided S x l)) xs

  -- the number of distinct rests of a list of functions
  unfoldable pub tally : List ℕ → List (Fun K) → ℕ
  unfolding gather rests
  tally S gs = length (gather S [] (flat (rests 0 S) gs))
