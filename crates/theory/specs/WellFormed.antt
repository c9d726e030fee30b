-- Means of proof: node lists that are diagrams: reduced, ordered by features, without twins; and a branch that means a function. Assumes nothing.
use Rattle.std.specs.Prelude.{◌≡◌, List, [], ◌∷◌, ℕ, suc, ◌≤◌, ◌<◌, length, get_or}
use Rattle.theory.specs.Kind.{Kind}
use Rattle.theory.specs.Deciding.{Alike}
use Rattle.theory.specs.Settings.{Valid}
use Rattle.theory.specs.Functions.{Fun}
use Rattle.theory.specs.Diagrams.{Branch, Node, Target, at, base, blank, leaf, node, value}

module _ {K : Kind} where
  -- a leaf, or a node below index m of feature k or higher
  abbrev pub Under : List (Node K) → ℕ → ℕ → Target K → Type 0
  Under N m k (leaf e) = Unit {0}
  Under N m k (node j) = (j < m) × (k ≤ (at N j).feature)

  -- a branch that may stand where features k and up are left
  abbrev pub Ok : List (Node K) → ℕ → Branch K → Type 0
  Ok N k b = Under N (length N) k b.to

  -- x may stand at index m: a branch for each value, not all equal, branch 0 adds nothing, each ends or goes to an earlier node of a higher feature
  pub record Fits (S : List ℕ) (N : List (Node K)) (m : ℕ) (x : Node K) : Type 0 where
    pub known : x.feature < length S
    pub full : length x.branches ≡ get_or S x.feature 0
    pub differ : ¬ Alike blank x.branches
    pub zeroed : base x.branches ≡ K.nil
    pub lower : (v : ℕ) → Under N m (suc x.feature) (get_or x.branches v blank).to

  -- every node fits, and no two are equal
  pub record WellFormed (S : List ℕ) (N : List (Node K)) : Type 0 where
    pub fits : (i : ℕ) → i < length N → Fits S N i (at N i)
    pub once : (i j : ℕ) → i < length N → j < length N → at N i ≡ at N j → i ≡ j

  -- the branch gives what g gives, at every valid setting
  pub record Mean (N : List (Node K)) (k : ℕ) (ns : List ℕ) (b : Branch K) (g : Fun K) : Type 0 where
    pub ok : Ok N k b
    pub says : (s : List ℕ) → Valid ns s → value N k b s ≡ g s

  -- branch for branch
  abbrev pub Means : List (Node K) → ℕ → List ℕ → List (Branch K) → List (Fun K) → Type 0
  Means N k ns [] [] = Unit {0}
  Means N k ns [] (g ∷ gs) = ⊥
  Means N k ns (b ∷ bs) [] = ⊥
  Means N k ns (b ∷ bs) (g ∷ gs) = Mean N k ns b g × Means N k ns bs gs

  -- roots
  abbrev pub AllOk : List (Node K) → List (Branch K) → Type 0
  AllOk N [] = Unit {0}
  AllOk N (b ∷ bs) = Ok N 0 b × AllOk N bs
