-- Contract between layers: the search for the first setting at or after a given one with a number: what it answers. Assumes nothing.
use Rattle.std.specs.Prelude.{Option, Some, None, ◌≡◌, List, ℕ, drop}
use Rattle.std.proofs.Math.Seq.{slice}
use Rattle.theory.specs.First.{First, FirstFrom, NoneFrom}
use Rattle.theory.specs.Rules.{Rule}
use Rattle.settings.specs.Places.{Keeps}
use Rattle.settings.specs.Step.{setting_of}
use Rattle.settings.specs.declared.steps.Setting.{Setting}
use Rattle.rule_next.specs.Marks.{rule_from}
use Rattle.promises.specs.Words.{features, sizes}

-- the places of the features from k on hold the first of all settings that the branch b gives x
pub record Completes (w : List ℕ) (x k b : ℕ) (v r : List ℕ) : Type 0 where
  pub keeps : Keeps (features w) k v r
  pub first : First (drop k (sizes w)) (rule_from w k b) x (slice k (features w) r)

-- the same of the first at or after the setting in v
pub record Finds (w : List ℕ) (x k b : ℕ) (v r : List ℕ) : Type 0 where
  pub keeps : Keeps (features w) k v r
  pub first : FirstFrom (drop k (sizes w)) (rule_from w k b) x (slice k (features w) v) (slice k (features w) r)

abbrev pub Seeks : List ℕ → ℕ → ℕ → ℕ → List ℕ → Option (List ℕ) → Type 0
Seeks w x k b v (Some r) = Finds w x k b v r
Seeks w x k b v None = NoneFrom (drop k (sizes w)) (rule_from w k b) x (slice k (features w) v)

-- THE ANSWER: the first setting at or after s that g gives x; or that there is none
abbrev pub Answers : List ℕ → Rule → ℕ → List ℕ → Option Setting → Type 0
Answers S g x s (Some r) = (u : List ℕ) × (r ≡ setting_of u) × FirstFrom S g x s u
Answers S g x s None = NoneFrom S g x s
