-- Contract between layers: how a rule is built in a rule table: what `make` asks and answers, and what a call that builds leaves, which the part above knows by its laws alone. Assumes nothing.
use Rattle.std.specs.Prelude.{Option, None, Some, List, ℕ}
use Rattle.theory.specs.Rules.{Rule}
-- shut: a table that nodes may be added to; a rule built, or its first branches, or no room for all; a list that a node may be made of, the node made
pub use Rattle.rule_inside.specs.Building.{Ready, Built, Filling, Stopped, Listed, Made}
use Rattle.promises.specs.Words.{size}

-- THE CONTRACT of every function that builds: the table afterwards, and the answer, are those of the rule g of features k and up
abbrev pub Result : List ℕ → List ℕ → ℕ → Rule → Option ℕ → Type 0
Result w w' k g a = Built w w' k g a

-- that of `make`
abbrev pub Makes : List ℕ → List ℕ → ℕ → List ℕ → Option ℕ → Type 0
Makes w w' k l a = Made w w' k l a

-- all branches of g at feature k are filled, or None where there was no room for them
abbrev pub Fills : List ℕ → List ℕ → ℕ → Rule → Option (Unit {0}) → List ℕ → Type 0
Fills w t k g (Some u) l = Filling w t k g (size w k) l
Fills w t k g None l = Stopped w t k g
