-- Contract between layers: the nodes that a run of places reaches, numbered: the places p, p + 1, .., so many of them, in turn. Assumes nothing.
use Rattle.std.specs.Prelude.{None, ◌≡◌, List, ℕ, ◌+◌, ◌≤◌, ◌<◌, length, get_or}
use Rattle.theory.specs.Build.{table}
use Rattle.theory.specs.Rules.{Branch, Rule}
use Rattle.rule_words.specs.Words.{branches}
use Rattle.rule_numbering.specs.Walkable.{Stands}
use Rattle.rule_numbering.specs.Numbering.{renumbered, Has, numbered, Noted}
use Rattle.promises.specs.Tab.{tab}
use Rattle.rule_numbering.specs.declared.Notes.{Notes}
use Rattle.promises.specs.Words.{sizes}
use Rattle.promises.specs.RuleWords.{rule_root as root, rule_of}

-- the rules of a run
abbrev pub run_rules : List ℕ → ℕ → ℕ → List Rule
run_rules w p m = tab (λ q. rule_of w (p + q)) m

-- its roots, for the numbers that the nodes have
abbrev pub run_roots : List ℕ → Notes → ℕ → ℕ → List Branch
run_roots w n p m = branches m (λ q. renumbered n (root w (p + q)))

-- a run of places in each of which a branch of the table stands
pub record Run (w : List ℕ) (p m : ℕ) : Type 0 where
  pub within : p + m ≤ 32
  pub stand : (q : ℕ) → q < m → Stands w (root w (p + q))

-- no node has a number
pub record Blank (n : Notes) : Type 0 where
  pub long : length n.numbers ≡ 4096
  pub wide : length n.nodes ≡ 4096
  pub none : (i : ℕ) → i < 4096 → get_or n.numbers i None ≡ None
  pub empty : n.count ≡ 0

-- r nodes have numbers, each that the run reaches and no other: its rules built in turn from nothing give these roots and these nodes
pub record Ran (w : List ℕ) (n : Notes) (p m r : ℕ) : Type 0 where
  pub noted : Noted w n r
  pub holds : table (sizes w) (run_rules w p m) ≡ (run_roots w n p m, numbered w n r)
  pub has : (q : ℕ) → q < m → Has n (root w (p + q))
