-- Costs: a branch adds an integer, and there is one end. The kind, and short names for it; the laws are those of every kind. Assumes nothing.
use Rattle.std.specs.Prelude.{◌≡◌, ℕ, ℤ, pos, negsuc, neg_ℤ, ◌+ℤ◌}
use Rattle.std.proofs.Common.{sym, ap}
use Rattle.std.proofs.Math.Decide.{ℕ_discrete}
use Rattle.std.proofs.Math.IntN.{+ℤ_idl, +ℤ_idr, +ℤ_assoc, +ℤ_invl, +ℤ_invr, pos-ne-negsuc}
use Rattle.theory.specs.Kind.{Kind, Group}
use Rattle.theory.specs.Rules.{unit_discrete}
use Rattle.theory.specs.Functions as F
use Rattle.theory.specs.Diagrams as D

unfoldable pub int_discrete : Discrete ℤ
int_discrete (pos m) (pos n) = go (ℕ_discrete m n)
  where
    go : Dec (m ≡ n) → Dec (pos m ≡ pos n)
    go (yes p) = yes (ap pos p)
    go (no p) = no (λ q. p (cc))
int_discrete (pos m) (negsuc n) = no (pos-ne-negsuc m n)
int_discrete (negsuc m) (pos n) = no (λ q. pos-ne-negsuc n m (sym q))
int_discrete (negsuc m) (negsuc n) = go (ℕ_discrete m n)
  where
    go : Dec (m ≡ n) → Dec (negsuc m ≡ negsuc n)
    go (yes p) = yes (ap negsuc p)
    go (no p) = no (λ q. p (cc))

pub int_group : Group ℤ (pos 0) ◌+ℤ◌ neg_ℤ
int_group = record { plus_assoc = +ℤ_assoc; nil_plus = +ℤ_idl; plus_nil = +ℤ_idr; neg_plus = +ℤ_invl; plus_neg = +ℤ_invr }

abbrev pub costs : Kind
costs =
    record {
      Off = ℤ;
      End = Unit {0};
      off_discrete = int_discrete;
      end_discrete = unit_discrete;
      nil = pos 0;
      plus = ◌+ℤ◌;
      neg = neg_ℤ;
      end0 = tt;
      group = int_group;
    }

abbrev pub Cost : Type 0
Cost = F.Fun costs

-- the integer a, as what a cost gives
abbrev pub amount : ℤ → F.Amount costs
amount a = record { off = a; end = tt }

-- a branch that adds a, to the end and to node i
abbrev pub to_end : ℤ → D.Branch costs
to_end a = record { adds = a; to = D.leaf tt }

abbrev pub to_node : ℤ → ℕ → D.Branch costs
to_node a i = record { adds = a; to = D.node i }
