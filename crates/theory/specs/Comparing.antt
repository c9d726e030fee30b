-- Means of proof: whether two functions agree at every setting, and whether two branches or nodes are equal: decided. Assumes nothing.
use Rattle.std.proofs.Math.Path.{◌≡◌, ap}
use mathlib.Core.List.{List, [], ◌∷◌}
use Rattle.std.specs.Prelude.{ℕ, ◌<◌}
use Rattle.std.proofs.Math.Decide.{ℕ_discrete}
use Rattle.std.proofs.Common.{arith}
use Rattle.theory.specs.Kind.{Kind}
use Rattle.theory.specs.Deciding.{all_decided, list_discrete}
use Rattle.theory.specs.Functions.{Agree, Amount, Fun, held}
use Rattle.theory.specs.Diagrams.{Branch, Node, Target, leaf, node}

module _ {K : Kind} where
  -- what tells two targets apart
  leaf_end : Target K → K.End
  leaf_end (leaf e) = e
  leaf_end (node i) = K.end0

  node_index : Target K → ℕ
  node_index (leaf e) = 0
  node_index (node i) = i

  is_node : Target K → ℕ
  is_node (leaf e) = 0
  is_node (node i) = 1

  unfoldable pub target_discrete : Discrete (Target K)
  unfolding leaf_end node_index is_node
  target_discrete (leaf e) (leaf f) = go (K.end_discrete e f)
    where
      go : Dec (e ≡ f) → Dec (◌≡◌ {A = Target K} (leaf e) (leaf f))
      go (yes p) = yes (ap leaf p)
      go (no p) = no (λ q. p (ap leaf_end q))
  target_discrete (leaf e) (node j) = no (λ q. let z : ◌≡◌ {A = ℕ} 0 1 = ap is_node q in omega arith)
  target_discrete (node i) (leaf f) = no (λ q. let z : ◌≡◌ {A = ℕ} 1 0 = ap is_node q in omega arith)
  target_discrete (node i) (node j) = go (ℕ_discrete i j)
    where
      go : Dec (i ≡ j) → Dec (◌≡◌ {A = Target K} (node i) (node j))
      go (yes p) = yes (ap node p)
      go (no p) = no (λ q. p (ap node_index q))

  unfoldable pub branch_discrete : Discrete (Branch K)
  unfolding target_discrete
  branch_discrete x y = go (K.off_discrete x.adds y.adds) (target_discrete x.to y.to)
    where
      go : Dec (x.adds ≡ y.adds) → Dec (x.to ≡ y.to) → Dec (x ≡ y)
      go (yes p) (yes q) = yes (λ i. record { adds = p i; to = q i })
      go (yes p) (no q) = no (λ e. q (ap (λ (n : Branch K). n.to) e))
      go (no p) d = no (λ e. p (ap (λ (n : Branch K). n.adds) e))

  unfoldable pub node_discrete : Discrete (Node K)
  unfolding branch_discrete list_discrete
  node_discrete x y = go (ℕ_discrete x.feature y.feature) (list_discrete branch_discrete x.branches y.branches)
    where
      go : Dec (x.feature ≡ y.feature) → Dec (x.branches ≡ y.branches) → Dec (x ≡ y)
      go (yes p) (yes q) = yes (λ i. record { feature = p i; branches = q i })
      go (yes p) (no q) = no (λ e. q (ap (λ (n : Node K). n.branches) e))
      go (no p) d = no (λ e. p (ap (λ (n : Node K). n.feature) e))

  unfoldable pub amount_discrete : Discrete (Amount K)
  amount_discrete x y = go (K.off_discrete x.off y.off) (K.end_discrete x.end y.end)
    where
      go : Dec (x.off ≡ y.off) → Dec (x.end ≡ y.end) → Dec (x ≡ y)
      go (yes p) (yes q) = yes (λ i. record { off = p i; end = q i })
      go (yes p) (no q) = no (λ e. q (ap (λ (z : Amount K). z.end) e))
      go (no p) d = no (λ e. p (ap (λ (z : Amount K). z.off) e))

  unfoldable pub agree_decided : (ns : List ℕ) (g h : Fun K) → Dec (Agree ns g h)
  unfolding all_decided amount_discrete
  agree_decided [] g h = go (amount_discrete (g []) (h []))
    where
      go : Dec (g [] ≡ h []) → Dec (Agree [] g h)
      go (yes p) = yes one
        where
          one : Agree [] g h
          one [] x = p
          one (v ∷ s) x = absurd x
      go (no p) = no (λ a. p (a [] tt))
  agree_decided (n ∷ ns) g h = go (all_decided (λ v. agree_decided ns (held v g) (held v h)) n)
    where
      go : Dec ((v : ℕ) → v < n → Agree ns (held v g) (held v h)) → Dec (Agree (n ∷ ns) g h)
      go (yes p) = yes one
        where
          one : Agree (n ∷ ns) g h
          one [] x = absurd x
          one (v ∷ s) x = p v x.0 s x.1
      go (no p) = no (λ a. p (λ v l s x. a (v ∷ s) (l, x)))
