-- The words of a table of any kind: header, records, chains, and the nodes that the records say. Assumes nothing.
use Rattle.std.specs.Prelude.{Bool, true, false, ◌≡◌, List, ℕ, zero, suc, ◌+◌, ◌*◌, ◌/◌, ◌%◌, ◌≤◌, ◌<◌, eqb, get_or}
use Rattle.theory.specs.Kind.{Kind}
use Rattle.theory.specs.Diagrams.{Branch, Node}
use Rattle.promises.specs.Tab.{tab}

-- word j of the header
unfoldable pub head : List ℕ → ℕ → ℕ
head w j = get_or w j 0

-- word j of record i; far record i is record capacity + i
unfoldable pub word : List ℕ → ℕ → ℕ → ℕ
word w i j = get_or w (8192 + 16 * i + j) 0

abbrev pub capacity : List ℕ → ℕ
capacity w = head w 1

abbrev pub features : List ℕ → ℕ
features w = head w 2

abbrev pub size : List ℕ → ℕ → ℕ
size w k = head w (3 + k)

-- how many nodes are in use
abbrev pub count : List ℕ → ℕ
count w = head w 19

-- the feature list
unfoldable pub sizes : List ℕ → List ℕ
sizes w = tab (size w) (features w)

-- how many words a table of this capacity needs
abbrev pub bound : ℕ → ℕ
bound cap = 8192 + 32 * cap

-- the words from a to b are 0
pub record Zeros (w : List ℕ) (a b : ℕ) : Type 0 where
  pub zeros : (j : ℕ) → a ≤ j → j < b → get_or w j 0 ≡ 0

-- ---- a record: its feature, 12 body words, its chain link, 2 spare words (the kind says what they hold)
abbrev pub feature : List ℕ → ℕ → ℕ
feature w i = word w i 0

abbrev pub body : List ℕ → ℕ → ℕ → ℕ
body w i v = word w i (1 + v)

abbrev pub link : List ℕ → ℕ → ℕ
link w i = word w i 13

-- ---- the nodes, where `arm` is the branch of value v that body words say
module _ {K : Kind} (arm : (ℕ → ℕ) → ℕ → Branch K) where
  -- node i: its feature, and as many branches as that feature has values
  abbrev pub node_at : List ℕ → ℕ → Node K
  node_at w i = record { feature = feature w i; branches = tab (arm (body w i)) (size w (feature w i)) }

  unfoldable pub nodes_by : List ℕ → List (Node K)
  nodes_by w = tab (node_at w) (count w)

-- ---- chains
-- the chain head of hash h
abbrev pub bucket : List ℕ → ℕ → ℕ
bucket w h = head w (4096 + h)

-- the hash of a feature and the first n body words, and of all 12
unfoldable pub hash_to : ℕ → (ℕ → ℕ) → ℕ → ℕ
hash_to k f zero = k
hash_to k f (suc n) = (hash_to k f n * 2654435761 + f n) % 4294967296

unfoldable pub hash_of : ℕ → (ℕ → ℕ) → ℕ
unfolding hash_to
hash_of k f = hash_to k f 12 / 1048576

abbrev pub hash_at : List ℕ → ℕ → ℕ
hash_at w i = hash_of (feature w i) (body w i)

abbrev pub pick : {A : Type 0} → Bool → A → A → A
pick true a b = a
pick false a b = b

-- 1 + the last index below e whose hash is h, or 0
unfoldable pub last_of : (ℕ → ℕ) → ℕ → ℕ → ℕ
last_of f h zero = 0
last_of f h (suc e) = pick (eqb (f e) h) (suc e) (last_of f h e)
