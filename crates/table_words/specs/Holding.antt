-- Contract between layers: words that hold a node list of any kind, and functions that add nodes to it: what a table is to them, and their one contract. Assumes nothing.
use Rattle.std.specs.Prelude.{◌≡◌, List, ℕ, suc, ◌≤◌, ◌<◌, length, take, drop}
use Rattle.std.proofs.Math.Option.{Option, none, some}
use Rattle.theory.specs.Build.{Built, each, build}
use Rattle.theory.specs.Diagrams.{Branch, Node}
use Rattle.theory.specs.Functions.{Fun, parts}
use Rattle.theory.specs.Kind.{Kind}
use Rattle.theory.specs.Settings.{Pos}
use Rattle.theory.specs.WellFormed.{WellFormed}

-- how the words of a table are read
pub record Layout (K : Kind) : Type 1 where
  pub nodes : List ℕ → List (Node K)
  pub sizes : List ℕ → List ℕ
  pub capacity : List ℕ → ℕ
  pub Laid : List ℕ → Type 0
  pub Kept : List ℕ → List ℕ → Type 0

module _ {K : Kind} (T : Layout K) where
  -- the words are laid out, and their node list is well formed
  pub record Holds (w : List ℕ) : Type 0 where
    pub laid : T.Laid w
    pub wf : WellFormed (T.sizes w) (T.nodes w)

  -- w' holds the first nodes of N, as many as there is room for, and is w otherwise
  pub record Grown (w w' : List ℕ) (N : List (Node K)) : Type 0 where
    pub kept : T.Kept w w'
    pub well : Holds w'
    pub holds : T.nodes w' ≡ take (T.capacity w) N

  -- the answer: the branch, or that there was no room for all nodes
  abbrev pub Answers : ℕ → Built K → Option (Branch K) → Type 0
  Answers cap r (some b) = (b ≡ r.0) × (length r.1 ≤ cap)
  Answers cap r none = cap < length r.1

  -- the table afterwards, and the answer, are those of the branch and the node list r
  pub record Gives (w w' : List ℕ) (r : Built K) (a : Option (Branch K)) : Type 0 where
    pub grown : Grown w w' r.1
    pub answers : Answers (T.capacity w) r a

  -- `build` of g over the features from k on, from the table's nodes
  unfoldable pub built : List ℕ → ℕ → Fun K → Built K
  built w k g = build k (drop k (T.sizes w)) g (T.nodes w)

  -- THE CONTRACT of every function that adds nodes
  abbrev pub Result : List ℕ → List ℕ → ℕ → Fun K → Option (Branch K) → Type 0
  Result w w' k g a = Gives w w' (built w k g) a

  -- `build` of the functions gs in turn from the table's nodes
  unfoldable pub built_all : List ℕ → List (Fun K) → List (Branch K) × List (Node K)
  built_all w gs = each (build 0 (T.sizes w)) gs (T.nodes w)

  -- the answer: their branches, or that there was no room for all nodes
  abbrev pub AnswersAll : ℕ → List (Branch K) × List (Node K) → Option (List (Branch K)) → Type 0
  AnswersAll cap r (some bs) = (bs ≡ r.0) × (length r.1 ≤ cap)
  AnswersAll cap r none = cap < length r.1

  -- the contract of a function that builds several
  pub record Results (w w' : List ℕ) (gs : List (Fun K)) (a : Option (List (Branch K))) : Type 0 where
    pub grown : Grown w w' (built_all w gs).1
    pub answers : AnswersAll (T.capacity w) (built_all w gs) a

  -- the first v branches of g at feature k, built in turn
  unfoldable pub each_to : List ℕ → ℕ → Fun K → ℕ → List (Branch K) × List (Node K)
  each_to w k g v = each (build (suc k) (drop (suc k) (T.sizes w))) (parts 0 v g) (T.nodes w)

  -- they are in t, and are bs
  pub record Filled (w t : List ℕ) (k : ℕ) (g : Fun K) (v : ℕ) (bs : List (Branch K)) : Type 0 where
    pub grown : Grown w t (each_to w k g v).1
    pub fits : length (each_to w k g v).1 ≤ T.capacity w
    pub says : bs ≡ (each_to w k g v).0

  -- there was no room for all n
  pub record Stopped (w t : List ℕ) (k : ℕ) (g : Fun K) (n : ℕ) : Type 0 where
    pub grown : Grown w t (each_to w k g n).1
    pub over : T.capacity w < length (each_to w k g n).1

-- what the words must obey for the laws of the walk
pub record Lawful {K : Kind} (T : Layout K) : Type 0 where
  pub kept_refl : (w : List ℕ) → T.Kept w w
  pub kept_trans : (u v w : List ℕ) → T.Kept u v → T.Kept v w → T.Kept u w
  pub kept_capacity : (w w' : List ℕ) → T.Kept w w' → T.capacity w' ≡ T.capacity w
  pub kept_sizes : (w w' : List ℕ) → T.Laid w → T.Kept w w' → T.sizes w' ≡ T.sizes w
  pub within : (w : List ℕ) → T.Laid w → length (T.nodes w) ≤ T.capacity w
  pub positive : (w : List ℕ) → T.Laid w → Pos (T.sizes w)
