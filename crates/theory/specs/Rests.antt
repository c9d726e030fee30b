-- Rests, dependence and the number of distinct rests, straight from docs/SCOPE.md, from functions alone. Assumes nothing.
use Rattle.std.specs.Prelude.{◌≡◌, List, [], ◌∷◌, ◌++◌, ℕ, ◌<◌, length, get_or, take, drop}
use Rattle.theory.specs.Kind.{Kind}
use Rattle.theory.specs.Settings.{Valid, zeros}
use Rattle.theory.specs.Functions.{Agree, Fun, held, lift, zero_fun}

module _ (K : Kind) where
  -- a rest: the feature k that it depends on, and the function of features k and up
  pub record Rest : Type 0 where
    pub level : ℕ
    pub function : Fun K

module _ {K : Kind} where
  -- it does not depend on its first feature, of size n
  unfoldable pub Free : ℕ → List ℕ → Fun K → Type 0
  Free n ns g = (v : ℕ) → v < n → Agree ns (held v g) (held 0 g)

  -- the function less its amount where all remaining features are 0
  abbrev pub norm : List ℕ → Fun K → Fun K
  norm ns g = λ s. lift (K.neg (g (zeros ns)).off) (g s)

  -- two rests are equal if k and the functions are equal
  pub record Equal (S : List ℕ) (x y : Rest K) : Type 0 where
    pub levels : x.level ≡ y.level
    pub functions : Agree (drop x.level S) x.function y.function

  -- stands where a list of rests has ended
  abbrev pub no_rest : Rest K
  no_rest = record { level = 0; function = λ s. record { off = K.nil; end = K.end0 } }

  -- a rest equal to x stands in l
  abbrev pub Seen : List ℕ → Rest K → List (Rest K) → Type 0
  Seen S x l = (i : ℕ) × (i < length l) × Equal S (get_or l i no_rest) x

  -- the function with its first features fixed to the values p
  abbrev pub after : List ℕ → Fun K → Fun K
  after p g = λ s. g (p ++ s)

  -- it depends on its first feature
  abbrev pub Depends : List ℕ → Fun K → Type 0
  Depends [] r = ⊥
  Depends (n ∷ ns) r = ¬ Free n ns r

  -- x is a rest of g at k: features 0 to k - 1 are fixed to any values, it is what remains as a function of features k and up,
  -- less its amount where these are all 0 (a rule subtracts nothing), and it depends on feature k
  pub record IsRest (S : List ℕ) (g : Fun K) (x : Rest K) : Type 0 where
    pub fixed : List ℕ
    pub valid : Valid (take x.level S) fixed
    pub remains : Agree (drop x.level S) x.function (norm (drop x.level S) (after fixed g))
    pub depends : Depends (drop x.level S) x.function

  -- x is a rest of one of the functions gs
  pub record OfSome (S : List ℕ) (gs : List (Fun K)) (x : Rest K) : Type 0 where
    pub place : ℕ
    pub there : place < length gs
    pub is_rest : IsRest S (get_or gs place zero_fun) x

  -- c is the number of distinct rests of the functions gs: a list of c of them, no two equal, that misses none
  pub record Counts (S : List ℕ) (gs : List (Fun K)) (c : ℕ) : Type 0 where
    pub list : List (Rest K)
    pub number : length list ≡ c
    pub apart : (i j : ℕ) → i < length list → j < length list → Equal S (get_or list i no_rest) (get_or list j no_rest) → i ≡ j
    pub sound : (i : ℕ) → i < length list → OfSome S gs (get_or list i no_rest)
    pub complete : (x : Rest K) → OfSome S gs x → Seen S x list
