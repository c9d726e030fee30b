-- Contract between layers: a sheet's nodes taken into a rule table: what the walk asks, notes and gives. Assumes nothing.
use Rattle.std.specs.Prelude.{◌≡◌, List, ℕ, ◌+◌, ◌-◌, ◌<◌, length, get_or, Option}
use Rattle.theory.specs.Diagrams.{value}
use Rattle.theory.specs.Rules.{Rule}
use Rattle.theory.specs.WellFormed.{Mean}
use Rattle.rule_nodes.specs.Nodes.{Holds, Result}
use Rattle.promises.specs.Words.{sizes}
use Rattle.promises.specs.RuleWords.{decode, rule_node_list as nodes}
use Rattle.promises.specs.Sheet.{sheet_sizes as sizes_of, sheet_count as count, SheetSits as Below, sheet_nodes as nodes_of}

-- what the sheet's branch word b means from feature k on
abbrev pub given : List ℕ → ℕ → ℕ → Rule
given s k b = λ y. value (nodes_of s) k (decode b) y

-- each note is 0, or 1 + the table's branch that means what the sheet's node means
pub record Noted (w s n : List ℕ) : Type 0 where
  pub long : length n ≡ 4096
  pub right : (i : ℕ) → i < count s → 0 < get_or n i 0 → Mean (nodes w) 0 (sizes w) (decode (get_or n i 0 - 1)) (given s 0 (65536 + i))

-- the walk of a sheet s may be asked: over the table's features, for one of its branch words
pub record Asks (w s n : List ℕ) (b : ℕ) : Type 0 where
  pub holds : Holds w
  pub same : sizes w ≡ sizes_of s
  pub below : Below s (count s) 0 b
  pub noted : Noted w s n

-- the branch is that of what b means, and what is noted is still right
pub record Takes (w w' s n' : List ℕ) (b : ℕ) (a : Option ℕ) : Type 0 where
  pub result : Result w w' 0 (given s 0 b) a
  pub noted : Noted w' s n'
