-- Contract between layers: the joint rule of several operands: what the engine builds, and what it is asked on the way. Assumes nothing.
use Rattle.std.specs.Prelude.{◌≡◌, List, ℕ, ◌-◌, ◌≤◌, ◌<◌, ltb, eqb, set}
use Rattle.theory.specs.Diagrams.{next}
use Rattle.theory.specs.Rules.{Rule, says, number}
use Rattle.table_words.specs.Words.{listed}
use Rattle.rule_nodes.specs.Nodes.{Holds, Good, top}
use Rattle.rule_operators.specs.Operators.{op_of}
use Rattle.promises.specs.Tab.{tab}
use Rattle.promises.specs.Words.{features, size, pick}
use Rattle.promises.specs.RuleWords.{decode, rule_node_list as nodes}

-- operand j's setting of the features from k on: the forgotten feature f, if it is still to come, is held at j
unfoldable pub spread : ℕ → ℕ → ℕ → List ℕ → List ℕ
spread f k j s = pick (ltb f k) s (set s (f - k) j)

-- the value of feature k that operand j goes to, where the setting has v
abbrev pub turn : ℕ → ℕ → ℕ → ℕ → ℕ
turn f k j v = pick (eqb f k) j v

-- the operator o of what the first n operands of the list l mean from feature k on
unfoldable pub joint : List ℕ → ℕ → ℕ → ℕ → ℕ → List ℕ → Rule
joint w o f n k l s = says (op_of o (tab (λ j. number (nodes w) k (decode (listed l j)) (spread f k j s)) n))

-- 2 to 9 operands of the table w, where features k and up are left; a forgotten feature has a value for each
pub record Operands (w : List ℕ) (f n k : ℕ) (l : List ℕ) : Type 0 where
  pub holds : Holds w
  pub two : 2 ≤ n
  pub nine : n ≤ 9
  pub up_to : k ≤ features w
  pub each : (j : ℕ) → j < n → Good w k (listed l j)
  pub forget : f < features w → n ≤ size w f

-- r are the branches of the operands l for value v of feature k
pub record Next (w : List ℕ) (f n k v : ℕ) (l r : List ℕ) : Type 0 where
  pub each : (j : ℕ) → j < n → decode (listed r j) ≡ next (nodes w) k (decode (listed l j)) (turn f k j v)

-- r is the lowest feature that an operand tests; the number of features, where there is none
pub record Lowest (w : List ℕ) (n : ℕ) (l : List ℕ) (r : ℕ) : Type 0 where
  pub most : r ≤ features w
  pub each : (j : ℕ) → j < n → r ≤ top w (listed l j)
  pub above : (z : ℕ) → z ≤ features w → ((j : ℕ) → j < n → z ≤ top w (listed l j)) → z ≤ r
