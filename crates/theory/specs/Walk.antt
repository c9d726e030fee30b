-- The walk with a counter that tells whether a node list is what building its roots in turn gives. Assumes nothing.
use Rattle.std.specs.Prelude.{◌≡◌, ℕ, suc, ◌<◌, length}
use Rattle.std.proofs.Math.Option.{Option, none, some}
use mathlib.Core.List.{List, [], ◌∷◌}
use Rattle.std.proofs.Math.Decide.{ℕ_discrete, dec_lt}
use Rattle.theory.specs.Kind.{Kind}
use Rattle.theory.specs.Diagrams.{Branch, Node, Target, at, leaf, node}
use Rattle.theory.specs.WellFormed.{AllOk, WellFormed}

-- node i is done in its turn: the counter goes one up
unfoldable pub finish : (i d : ℕ) → Dec (d ≡ i) → Option ℕ
finish i d (yes e) = some (suc i)
finish i d (no e) = none

-- after the branches of node i
unfoldable pub close : ℕ → Option ℕ → Option ℕ
unfolding finish
close i none = none
close i (some d) = finish i d (ℕ_discrete d i)

-- one walk after the other; a lost one stays lost
unfoldable pub bind : Option ℕ → (ℕ → Option ℕ) → Option ℕ
bind none k = none
bind (some d) k = k d

module _ {K : Kind} where
  -- branches in turn
  unfoldable pub scans : (Target K → ℕ → Option ℕ) → List (Branch K) → ℕ → Option ℕ
  unfolding bind
  scans f [] c = some c
  scans f (b ∷ bs) c = bind (f b.to c) (λ d. scans f bs d)

  -- a node below the counter is done; else its branches are walked, and it must be the next
  unfoldable pub visit : (x : Node K) (k i c : ℕ) → (Target K → ℕ → Option ℕ) → Dec (x.feature ≡ k) → Dec (i < c) → Option ℕ
  unfolding close scans
  visit x k i c f (no p) e = f (node i) c
  visit x k i c f (yes p) (yes h) = some c
  visit x k i c f (yes p) (no h) = close i (scans f x.branches c)

  -- one feature further
  unfoldable pub step : List (Node K) → ℕ → (Target K → ℕ → Option ℕ) → Target K → ℕ → Option ℕ
  unfolding visit
  step N k f (leaf p) c = f (leaf p) c
  step N k f (node i) c = visit (at N i) k i c f (ℕ_discrete (at N i).feature k) (dec_lt i c)

  -- the walk from a target, the nodes below c done: how many are done after it, or nothing where one is not met in its turn
  unfoldable pub scan : List (Node K) → ℕ → List ℕ → Target K → ℕ → Option ℕ
  unfolding step
  scan N k [] b c = some c
  scan N k (n ∷ ns) b c = step N k (λ d e. scan N (suc k) ns d e) b c

  -- a node list with roots in which nothing is missing, doubled, out of order or out of reach
  pub record Tidy (S : List ℕ) (roots : List (Branch K)) (N : List (Node K)) : Type 0 where
    pub well : WellFormed S N
    pub roots_ok : AllOk N roots
    pub in_order : scans (scan N 0 S) roots 0 ≡ some (length N)
