-- Rules: a branch is a phrase or a node and adds nothing. The kind, and short names for it; the laws are those of every kind. Assumes nothing.
use Rattle.std.specs.Prelude.{refl, List, ℕ}
use Rattle.std.proofs.Math.Decide.{ℕ_discrete}
use Rattle.theory.specs.Kind.{Kind, Group}
use Rattle.theory.specs.Functions as F
use Rattle.theory.specs.Diagrams as D
use Rattle.theory.specs.Build as B

unfoldable pub unit_discrete : Discrete (Unit {0})
unit_discrete x y = yes refl

pub unit_group : Group (Unit {0}) tt (λ a b. tt) (λ a. tt)
unit_group = record { plus_assoc = λ a b c. refl; nil_plus = λ a. refl; plus_nil = λ a. refl; neg_plus = λ a. refl; plus_neg = λ a. refl }

abbrev pub rules : Kind
rules =
    record {
      Off = Unit {0};
      End = ℕ;
      off_discrete = unit_discrete;
      end_discrete = ℕ_discrete;
      nil = tt;
      plus = λ a b. tt;
      neg = λ a. tt;
      end0 = 0;
      group = unit_group;
    }

-- what a rule gives a setting, and the rule
abbrev pub Phrase : Type 0
Phrase = F.Amount rules

abbrev pub Rule : Type 0
Rule = F.Fun rules

abbrev pub Branch : Type 0
Branch = D.Branch rules

abbrev pub Node : Type 0
Node = D.Node rules

abbrev pub Built : Type 0
Built = B.Built rules

-- phrase number p, as what a rule gives and as a branch
abbrev pub says : ℕ → Phrase
says p = record { off = tt; end = p }

abbrev pub phrase : ℕ → Branch
phrase p = record { adds = tt; to = D.leaf p }

abbrev pub node : ℕ → Branch
node i = record { adds = tt; to = D.node i }

-- the number of the phrase that a branch means at a setting
abbrev pub number : List Node → ℕ → Branch → List ℕ → ℕ
number N k b s = (D.value N k b s).end
