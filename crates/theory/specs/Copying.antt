-- Means of proof: copying the branches of one node list after the nodes of another, depth first, each node once. Assumes nothing.
use Rattle.std.specs.Prelude.{◌≡◌, List, ℕ, zero, suc, ◌+◌, ◌<◌, length, drop}
use Rattle.theory.specs.Kind.{Kind}
use Rattle.theory.specs.Functions.{parts}
use Rattle.theory.specs.Diagrams.{Branch, Node, Target, at, plain, value}
use Rattle.theory.specs.WellFormed.{Mean, Under, WellFormed}
use Rattle.theory.specs.Build.{build, each}

module _ {K : Kind} where
  -- copying a branch of O after the nodes M is `build` of its meaning: from any feature and whatever it adds, a branch to t becomes one to t', and M becomes M'
  pub record Copies (S : List ℕ) (O : List (Node K)) (t : Target K) (M : List (Node K)) (t' : Target K) (M' : List (Node K)) : Type 0 where
    pub built : (k : ℕ) (a : K.Off) → Under O (length O) k t → build k (drop k S) (value O k (record { adds = a; to = t })) M ≡ (record { adds = a; to = t' }, M')

  -- node j of M means what node i of O does
  pub record Twin (S : List ℕ) (O M : List (Node K)) (i j : ℕ) : Type 0 where
    pub alike : (at M j).feature ≡ (at O i).feature
    pub mean : Mean M (at O i).feature (drop (at O i).feature S) (plain j) (value O (at O i).feature (plain i))

  -- M holds copies of some nodes of O, and nothing else: f i is 1 + the number of the copy of node i, or 0
  pub record Half (S : List ℕ) (O M : List (Node K)) (f : ℕ → ℕ) : Type 0 where
    pub wf : WellFormed S M
    pub twin : (i j : ℕ) → i < length O → f i ≡ suc j → Twin S O M i j
    pub from : (j : ℕ) → j < length M → (i : ℕ) × (i < length O) × (f i ≡ suc j)

  -- the first v branches of node i of O, copied in turn, are bs, and M becomes M'
  pub record Lists (S : List ℕ) (O : List (Node K)) (i : ℕ) (M : List (Node K)) (v : ℕ) (bs : List (Branch K)) (M' : List (Node K)) : Type 0 where
    pub lists : each (build (suc (at O i).feature) (drop (suc (at O i).feature) S)) (parts 0 v (value O (at O i).feature (plain i))) M ≡ (bs, M')

-- 1 for a copy's note, 0 for none
abbrev pub counted : ℕ → ℕ
counted zero = 0
counted (suc x) = 1

-- how many of the first n nodes have a copy
unfoldable pub marked : (ℕ → ℕ) → ℕ → ℕ
marked f zero = 0
marked f (suc n) = marked f n + counted (f n)
