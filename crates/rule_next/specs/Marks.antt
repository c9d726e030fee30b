-- Contract between layers: which branches of a rule table lead to a number: what the pass over the nodes tells. Assumes nothing.
use Rattle.std.specs.Prelude.{◌≡◌, Option, Some, None, List, ℕ, ◌+◌, ◌≤◌, ◌<◌, drop}
use Rattle.theory.specs.Counted.{Given}
use Rattle.theory.specs.Diagrams.{value}
use Rattle.theory.specs.Functions.{held}
use Rattle.theory.specs.Rules.{Rule}
use Rattle.theory.specs.WellFormed.{Ok}
use Rattle.rule_count.specs.Figures.{Answered}
use Rattle.rule_count.specs.declared.NodeAnswers.{NodeAnswers}
use Rattle.rule_count.specs.declared.Wanted.TheVariants.{Exactly}
use Rattle.promises.specs.Words.{features, size, count, sizes}
use Rattle.promises.specs.RuleWords.{decode, rule_node_list as nodes}
use Rattle.promises.specs.RuleSound.{RuleSound as Sound}

-- the rule that the branch word b means where the features from k on are left
abbrev pub rule_from : List ℕ → ℕ → ℕ → Rule
rule_from w k b = value (nodes w) k (decode b)

-- the branch leads to the number x: some setting of the features from k on gets it
abbrev pub Leads : List ℕ → ℕ → ℕ → ℕ → Type 0
Leads w x k b = Given (drop k (sizes w)) (rule_from w k b) x

-- a branch word of a sound table that may stand where the features from k on are left
pub record Spot (w : List ℕ) (k b : ℕ) : Type 0 where
  pub sound : Sound w
  pub good : Ok (nodes w) k (decode b)
  pub up_to : k ≤ features w

-- the answers tell of each node whether it leads to x
abbrev pub Marks : List ℕ → ℕ → NodeAnswers → Type 0
Marks w x a = (a.wanted ≡ Exactly x) × Answered w (Exactly x) (count w) a.met

-- r is the smallest value of feature k, from v on, whose branch leads to x
pub record Least (w : List ℕ) (x k b v r : ℕ) : Type 0 where
  pub from : v ≤ r
  pub below : r < size w k
  pub none : (y : ℕ) → v ≤ y → y < r → Given (drop (k + 1) (sizes w)) (held y (rule_from w k b)) x → ⊥
  pub leads : Given (drop (k + 1) (sizes w)) (held r (rule_from w k b)) x

-- there is such a value, the smallest; or there is none
abbrev pub Smallest : List ℕ → ℕ → ℕ → ℕ → ℕ → Option ℕ → Type 0
Smallest w x k b v (Some r) = Least w x k b v r
Smallest w x k b v None = (y : ℕ) → v ≤ y → y < size w k → Given (drop (k + 1) (sizes w)) (held y (rule_from w k b)) x → ⊥
