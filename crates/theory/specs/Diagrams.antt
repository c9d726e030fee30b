-- Branches, nodes and what they mean. Assumes nothing.
use Rattle.std.specs.Prelude.{◌≡◌, ℕ, suc, get_or}
use mathlib.Core.List.{List, [], ◌∷◌, map}
use Rattle.std.proofs.Math.Decide.{ℕ_discrete}
use Rattle.theory.specs.Kind.{Kind}
use Rattle.theory.specs.Functions.{Amount, Fun}

module _ (K : Kind) where
  -- a branch ends at an end (a phrase, or the one end of costs) or at a node, named by its index in a node list
  pub data Target : Type 0 where
    leaf : K.End → Target
    node : ℕ → Target

  -- a branch adds an offset on its way
  pub record Branch : Type 0 where
    pub adds : K.Off
    pub to : Target

  -- one branch for each value of the feature
  pub record Node : Type 0 where
    pub feature : ℕ
    pub branches : List Branch

module _ {K : Kind} where
  -- a more, a less on a branch
  abbrev pub up : K.Off → Branch K → Branch K
  up a b = record { adds = K.plus a b.adds; to = b.to }

  abbrev pub less : K.Off → Branch K → Branch K
  less a b = record { adds = K.plus (K.neg a) b.adds; to = b.to }

  -- stand where a list of branches, of nodes has ended
  abbrev pub blank : Branch K
  blank = record { adds = K.nil; to = leaf K.end0 }

  abbrev pub empty : Node K
  empty = record { feature = 0; branches = [] }

  abbrev pub at : List (Node K) → ℕ → Node K
  at N i = get_or N i empty

  -- what branch 0 adds: it goes to the branch above, so that branch 0 adds nothing
  abbrev pub base : List (Branch K) → K.Off
  base bs = (get_or bs 0 blank).adds

  -- the node of feature k with these branches
  abbrev pub node_of : ℕ → List (Branch K) → Node K
  node_of k bs = record { feature = k; branches = map (less (base bs)) bs }

  -- at feature k, value v: a node of feature k goes to its branch v, any other waits
  unfoldable pub at_feature : (x : Node K) (k i v : ℕ) → K.Off → Dec (x.feature ≡ k) → Branch K
  at_feature x k i v a (yes p) = up a (get_or x.branches v blank)
  at_feature x k i v a (no p) = record { adds = a; to = node i }

  unfoldable pub go_on : List (Node K) → ℕ → K.Off → Target K → ℕ → Branch K
  unfolding at_feature
  go_on N k a (leaf e) v = record { adds = a; to = leaf e }
  go_on N k a (node i) v = at_feature (at N i) k i v a (ℕ_discrete (at N i).feature k)

  abbrev pub next : List (Node K) → ℕ → Branch K → ℕ → Branch K
  next N k b v = go_on N k b.adds b.to v

  -- what is reached once every feature has its value
  unfoldable pub ended : K.Off → Target K → Amount K
  ended a (leaf e) = record { off = a; end = e }
  ended a (node i) = record { off = a; end = K.end0 }

  -- what the branch gives the setting of features k and up
  unfoldable pub value : List (Node K) → ℕ → Branch K → List ℕ → Amount K
  unfolding go_on ended
  value N k b [] = ended b.adds b.to
  value N k b (v ∷ s) = value N (suc k) (next N k b v) s

  -- the branch to node i that adds nothing
  abbrev pub plain : ℕ → Branch K
  plain i = record { adds = K.nil; to = node i }

  -- the function that a root means
  abbrev pub meaning : List (Node K) → Branch K → Fun K
  meaning N b = λ s. value N 0 b s

  -- the branch that is an amount
  abbrev pub ending : Amount K → Branch K
  ending x = record { adds = x.off; to = leaf x.end }
