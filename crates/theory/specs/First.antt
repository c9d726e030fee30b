-- The scope's "the first setting at or after a given one with a given number", of a rule as a function. Assumes nothing.
use Rattle.std.specs.Prelude.{◌≡◌, ◌⊎◌, List, ℕ}
use Rattle.theory.specs.Settings.{Valid, Before}
use Rattle.theory.specs.Rules.{Rule}

-- t is s, or comes after it
abbrev pub From : List ℕ → List ℕ → Type 0
From s t = (s ≡ t) ⊎ Before s t

-- t is the first setting at or after s that g gives the number x
pub record FirstFrom (S : List ℕ) (g : Rule) (x : ℕ) (s t : List ℕ) : Type 0 where
  pub valid : Valid S t
  pub gives : (g t).end ≡ x
  pub from : From s t
  pub least : (u : List ℕ) → Valid S u → (g u).end ≡ x → From s u → From t u

-- g gives the number x to no setting at or after s
pub record NoneFrom (S : List ℕ) (g : Rule) (x : ℕ) (s : List ℕ) : Type 0 where
  pub none : (u : List ℕ) → Valid S u → (g u).end ≡ x → From s u → ⊥

-- t is the first of all settings that g gives the number x
pub record First (S : List ℕ) (g : Rule) (x : ℕ) (t : List ℕ) : Type 0 where
  pub valid : Valid S t
  pub gives : (g t).end ≡ x
  pub least : (u : List ℕ) → Valid S u → (g u).end ≡ x → From t u
