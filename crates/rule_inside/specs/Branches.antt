-- Contract between layers: what the branch words that `rule_lending` lends mean. It passes the words on shut; the laws `..-in` and `..-out` are for its own proofs alone. Assumes nothing.
use Rattle.std.specs.Prelude.{◌≡◌, List, ℕ, ◌<◌}
use Rattle.theory.specs.Diagrams.{value}
use Rattle.theory.specs.Rules.{Rule}
use Rattle.rule_nodes.specs.Nodes.{Place}
use Rattle.promises.specs.RuleWords.{decode, rule_node_list}

-- b is a branch word of the rule table w where the features from k on are left
pub record Lent (w : List ℕ) (k b : ℕ) : Type 0 where
  place : Place w k b

pub lent_in : {w : List ℕ} {k b : ℕ} → Place w k b → Lent w k b
lent_in p = record { place = p }

pub lent_out : {w : List ℕ} {k b : ℕ} → Lent w k b → Place w k b
lent_out l = l.place

-- the rule of features k and up that it means
unfoldable pub lent : List ℕ → ℕ → ℕ → Rule
lent w k b = value (rule_node_list w) k (decode b)

-- the branch b is a phrase number
pub record Number (b : ℕ) : Type 0 where
  small : b < 65536

pub number_in : {b : ℕ} → b < 65536 → Number b
number_in h = record { small = h }

pub number_out : {b : ℕ} → Number b → b < 65536
number_out n = n.small

-- it is the phrase number n
pub record Says (b n : ℕ) : Type 0 where
  number : b < 65536
  same : b ≡ n

pub says_in : {b n : ℕ} → b < 65536 → b ≡ n → Says b n
says_in h e = record { number = h; same = e }

pub says_out : {b n : ℕ} → Says b n → (b < 65536) × (b ≡ n)
says_out s = (s.number, s.same)

-- a small number that tells a branch from every other
unfoldable pub key_of : ℕ → ℕ
key_of b = b
