-- What sound tables of every kind share: the header, the chains, branch words that may stand where they stand. Assumes nothing.
use Rattle.std.specs.Prelude.{◌≡◌, List, ℕ, ◌+◌, ◌*◌, ◌-◌, ◌≤◌, ◌<◌, length}
use Rattle.promises.specs.Words.{head, word, capacity, features, size, count, feature, body, link, bucket, hash_at, last_of, Zeros}

-- each size is from 2 to 8
pub record Sizes (w : List ℕ) : Type 0 where
  pub large : (k : ℕ) → k < features w → (2 ≤ size w k) × (size w k ≤ 8)

-- the header of a table of kind k, room for the capacity's records, and 0 in the words that no root, chain or node uses
pub record Header (k : ℕ) (w : List ℕ) : Type 0 where
  pub kind : head w 0 ≡ k
  pub some : 1 ≤ capacity w
  pub most : capacity w ≤ 4096
  pub room : 8192 + 32 * capacity w ≤ length w
  pub one : 1 ≤ features w
  pub few : features w ≤ 16
  pub within : count w ≤ capacity w
  pub fit : Sizes w
  pub past : Zeros w (3 + features w) 19
  pub shares : Zeros w 20 32
  pub middle : Zeros w 64 4096
  pub clean : Zeros w (8192 + 16 * count w) (8192 + 32 * capacity w)

-- ---- chains
-- nodes i and j have the same feature and the same body
pub record Same (w : List ℕ) (i j : ℕ) : Type 0 where
  pub feature : word w i 0 ≡ word w j 0
  pub each : (v : ℕ) → v < 12 → body w i v ≡ body w j v

-- node i has no twin before it
pub record Alone (w : List ℕ) (i : ℕ) : Type 0 where
  pub alone : (j : ℕ) → j < i → Same w i j → ⊥

-- each of the first n nodes links to the last node before it of its hash
pub record Linked (w : List ℕ) (n : ℕ) : Type 0 where
  pub links : (i : ℕ) → i < n → link w i ≡ last_of (hash_at w) (hash_at w i) i

-- the chains are those of the nodes in use, and no two of them are twins
pub record Chained (w : List ℕ) : Type 0 where
  pub linked : Linked w (count w)
  pub heads : (h : ℕ) → h < 4096 → bucket w h ≡ last_of (hash_at w) h (count w)
  pub single : (i : ℕ) → i < count w → Alone w i

-- words below `first` end; the others say a node: b does the one, or says a node below m of feature k or higher
pub record Sits (first : ℕ) (w : List ℕ) (m k b : ℕ) : Type 0 where
  pub below : b < first + m
  pub above : first ≤ b → k ≤ feature w (b - first)
