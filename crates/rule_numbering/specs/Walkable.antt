-- Contract between layers: a rule table whose nodes can be walked. Assumes nothing.
use Rattle.std.specs.Prelude.{List, ℕ, ◌+◌, ◌*◌, ◌≤◌, length}
use Rattle.theory.specs.Settings.{FeatureList}
use Rattle.theory.specs.WellFormed.{Ok, WellFormed}
use Rattle.promises.specs.Words.{count, sizes}
use Rattle.promises.specs.RuleWords.{decode, rule_node_list as nodes}

-- a well-formed node list over a feature list; the nodes' order, which of them are reached, the chains and all other words are free
pub record Walkable (w : List ℕ) : Type 0 where
  pub room : 8192 + 16 * count w ≤ length w
  pub most : count w ≤ 4096
  pub list : FeatureList (sizes w)
  pub wf : WellFormed (sizes w) (nodes w)

-- the word b says a phrase or a node in use
abbrev pub Stands : List ℕ → ℕ → Type 0
Stands w b = Ok (nodes w) 0 (decode b)
