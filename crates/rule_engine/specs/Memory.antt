-- Contract between layers: what the engine remembers, under a feature + 1 and the operands, and what its calls leave. Assumes nothing.
use Rattle.std.specs.Prelude.{Option, None, Some, ◌≡◌, List, ℕ, ◌+◌, ◌<◌, length, drop}
use Rattle.theory.specs.Diagrams.{value}
use Rattle.theory.specs.Settings.{Valid}
use Rattle.table_words.specs.Words.{listed}
use Rattle.table_memory.specs.Memory as M
use Rattle.rule_nodes.specs.Nodes.{Good}
use Rattle.rule_engine.specs.Joint.{joint}
use Rattle.promises.specs.Words.{sizes}
use Rattle.promises.specs.RuleWords.{decode, rule_node_list as nodes}

-- x is the result for the operands l from feature k on
pub record Recalled (w : List ℕ) (o f n k : ℕ) (l : List ℕ) (x : ℕ) : Type 0 where
  pub each : (j : ℕ) → j < n → Good w k (listed l j)
  pub good : Good w k x
  pub says : (s : List ℕ) → Valid (drop k (sizes w)) s → value (nodes w) k (decode x) s ≡ joint w o f n k l s

-- key is that of the first n operands of l from feature k on: the feature + 1, and they
pub record Keyed (n k : ℕ) (l key : List ℕ) : Type 0 where
  pub long : length key ≡ n + 1
  pub feature : listed key 0 ≡ k + 1
  pub operand : (j : ℕ) → j < n → listed key (1 + j) ≡ listed l j

-- an entry is right for the table w
pub record Right (o f n : ℕ) (w key : List ℕ) (x y : ℕ) : Type 0 where
  pub at : (k : ℕ) → listed key 0 ≡ k + 1 → Recalled w o f n k (drop 1 key) x

-- so is what a walk over the table w remembers, there or in the scratch s
abbrev pub Noted : List ℕ → ℕ → ℕ → ℕ → List ℕ → Type 0
Noted w o f n s = M.Noted (n + 1) (Right o f n) w s

-- as it is after a call that had room
abbrev pub Still : {A : Type 0} → List ℕ → ℕ → ℕ → ℕ → List ℕ → Option A → Type 0
Still w o f n s (Some x) = Noted w o f n s
Still w o f n s None = Unit {0}
