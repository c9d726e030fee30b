-- Means of proof: the one definition of diagrams: `build` makes the reduced diagram of a function onto a node list, depth first, branch 0 first. Assumes nothing.
use Rattle.std.specs.Prelude.{◌≡◌, ℕ, suc, length, get_or}
use mathlib.Core.List.{List, [], ◌∷◌, ◌++◌}
use Rattle.theory.specs.Kind.{Kind}
use Rattle.theory.specs.Deciding.{Alike, In, alike_decided, find}
use Rattle.theory.specs.Functions.{Fun, parts}
use Rattle.theory.specs.Diagrams.{Branch, Node, base, blank, empty, leaf, node, node_of}
use Rattle.theory.specs.Comparing.{branch_discrete, node_discrete}

module _ (K : Kind) where
  -- what building gives: the branch, and the node list with what was added
  abbrev pub Built : Type 0
  Built = Branch K × List (Node K)

module _ {K : Kind} where
  -- all branches equal: that branch; an equal node there: that node; else a new node at the end. What branch 0 adds goes to the branch above
  unfoldable pub decide : (k : ℕ) (bs : List (Branch K)) (N : List (Node K)) → Dec (Alike blank bs) → Dec (In empty (node_of k bs) N) → Built K
  decide k bs N (yes a) f = (get_or bs 0 blank, N)
  decide k bs N (no a) (yes w) = (record { adds = base bs; to = node w.0 }, N)
  decide k bs N (no a) (no w) = (record { adds = base bs; to = node (length N) }, N ++ (node_of k bs ∷ []))

  unfoldable pub make : ℕ → List (Branch K) → List (Node K) → Built K
  unfolding decide alike_decided find
  make k bs N = decide k bs N (alike_decided branch_discrete blank bs) (find node_discrete empty (node_of k bs) N)

  -- functions in turn, the node list handed on
  abbrev pub each : (Fun K → List (Node K) → Built K) → List (Fun K) → List (Node K) → List (Branch K) × List (Node K)
  each f [] N = ([], N)
  each f (g ∷ gs) N =
      let r = f g N in
      let q = each f gs r.1 in
      (r.0 ∷ q.0, q.1)

  -- the function of features k and up: the values of feature k in turn, then `make`
  unfoldable pub build : ℕ → List ℕ → Fun K → List (Node K) → Built K
  unfolding make
  build k [] g N = (record { adds = (g []).off; to = leaf (g []).end }, N)
  build k (n ∷ ns) g N =
      let q = each (λ h M. build (suc k) ns h M) (parts 0 n g) N in
      make k q.0 q.1

  -- the branches of feature k
  abbrev pub below : ℕ → ℕ → List ℕ → Fun K → List (Node K) → List (Branch K) × List (Node K)
  below k n ns g N = each (build (suc k) ns) (parts 0 n g) N

  -- N' is N with more nodes at its end
  pub record Ext (N N' : List (Node K)) : Type 0 where
    pub more : List (Node K)
    pub ends : N' ≡ N ++ more

  -- the roots and the nodes of a table whose places hold the functions gs
  abbrev pub table : List ℕ → List (Fun K) → List (Branch K) × List (Node K)
  table S gs = each (build 0 S) gs []
