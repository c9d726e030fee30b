-- Contract between layers: what the functions of the sweep ask and leave. Assumes nothing.
use Rattle.std.specs.Prelude.{◌≡◌, List, ℕ, suc, ◌+◌, ◌-◌, ◌*◌, ◌≤◌, ◌<◌, length, get_or}
use Rattle.table_words.specs.Words.{listed}
use Rattle.table_sweep.specs.Marks.{kept, done}
use Rattle.promises.specs.Words.{head, word, capacity, count, body, link, bucket, hash_at, last_of}

-- ---- the nodes from a on, taken out of the chains
-- a chain head or a link says the last node before of its hash
pub record Linked (w : List ℕ) (a : ℕ) : Type 0 where
  pub room : 8192 + 32 * capacity w ≤ length w
  pub most : capacity w ≤ 4096
  pub within : count w ≤ capacity w
  pub upto : a ≤ count w
  pub links : (i : ℕ) → i < count w → link w i ≡ last_of (hash_at w) (hash_at w i) i
  pub heads : (h : ℕ) → h < 4096 → bucket w h ≡ last_of (hash_at w) h (count w)

-- the same of one chain, whose head is word h
pub record Chain (w : List ℕ) (h a : ℕ) : Type 0 where
  pub room : 8192 + 32 * capacity w ≤ length w
  pub most : capacity w ≤ 4096
  pub within : count w ≤ capacity w
  pub upto : a ≤ count w
  pub hash : (4096 ≤ h) × (h < 8192)
  pub links : (i : ℕ) → i < count w → link w i ≡ last_of (hash_at w) (hash_at w i) i
  pub top : head w h ≡ last_of (hash_at w) (h - 4096) (count w)

-- each chain begins below a, and every other word is kept
pub record Cut (w w' : List ℕ) (a : ℕ) : Type 0 where
  pub long : length w' ≡ length w
  pub front : (j : ℕ) → j < 4096 → head w' j ≡ head w j
  pub heads : (h : ℕ) → h < 4096 → bucket w' h ≡ last_of (hash_at w) h a
  pub after : (j : ℕ) → 8192 ≤ j → get_or w' j 0 ≡ get_or w j 0

-- and the nodes from a on have no mark; the first a are noted as those that stay
pub record Unlinked (w w' : List ℕ) (a : ℕ) : Type 0 where
  pub long : length w' ≡ length w
  pub low : (j : ℕ) → j < 30 → head w' j ≡ head w j
  pub stay : kept w' ≡ a
  pub nothing : done w' ≡ a
  pub middle : (j : ℕ) → 32 ≤ j → j < 4096 → head w' j ≡ head w j
  pub heads : (h : ℕ) → h < 4096 → bucket w' h ≡ last_of (hash_at w) h a
  pub words : (i j : ℕ) → j < 16 → (j ≡ 13 → ⊥) → word w' i j ≡ word w i j
  pub links : (i : ℕ) → i < a → link w' i ≡ link w i
  pub none : (i : ℕ) → a ≤ i → i < count w → link w' i ≡ 0
  pub after : (j : ℕ) → 8192 + 16 * count w ≤ j → get_or w' j 0 ≡ get_or w j 0

-- ---- one copy
-- room for one copy more, of node i
pub record Spare (w : List ℕ) (i : ℕ) : Type 0 where
  pub room : 8192 + 32 * capacity w ≤ length w
  pub most : capacity w ≤ 4096
  pub there : i < capacity w
  pub free : done w < capacity w

-- one copy more, of node i, with the list as its body and node i's spare words; the near records are kept but for node i's mark
pub record Put (w w' : List ℕ) (i : ℕ) (l : List ℕ) : Type 0 where
  pub long : length w' ≡ length w
  pub low : (j : ℕ) → j < 8192 → (j ≡ 31 → ⊥) → head w' j ≡ head w j
  pub more : done w' ≡ suc (done w)
  pub noted : link w' i ≡ suc (done w)
  pub near : (n j : ℕ) → n < capacity w → j < 16 → (16 * n + j ≡ 16 * i + 13 → ⊥) → word w' n j ≡ word w n j
  pub old : (n j : ℕ) → n < done w → j < 16 → word w' (capacity w + n) j ≡ word w (capacity w + n) j
  pub feature : word w' (capacity w + done w) 0 ≡ word w i 0
  pub new : (v : ℕ) → v < 12 → body w' (capacity w + done w) v ≡ listed l v
  pub spare : (j : ℕ) → j < 2 → word w' (capacity w + done w) (14 + j) ≡ word w i (14 + j)
  pub after : (j : ℕ) → 8192 + 16 * (capacity w + done w) + 16 ≤ j → get_or w' j 0 ≡ get_or w j 0

-- ---- the way back
-- no more copies than nodes, and those that stay are among them
pub record Full (w : List ℕ) : Type 0 where
  pub room : 8192 + 32 * capacity w ≤ length w
  pub most : capacity w ≤ 4096
  pub within : count w ≤ capacity w
  pub fewer : done w ≤ count w
  pub stay : kept w ≤ done w

-- behind the nodes that stay the far records stand in the near ones' place, and are 0
pub record Brought (w w' : List ℕ) : Type 0 where
  pub long : length w' ≡ length w
  pub header : (j : ℕ) → j < 19 → head w' j ≡ head w j
  pub fewer : count w' ≡ done w
  pub shares : (j : ℕ) → 20 ≤ j → j < 30 → head w' j ≡ head w j
  pub gone : kept w' ≡ 0
  pub nothing : done w' ≡ 0
  pub middle : (j : ℕ) → 32 ≤ j → j < 8192 → head w' j ≡ head w j
  pub front : (j : ℕ) → 8192 ≤ j → j < 8192 + 16 * kept w → get_or w' j 0 ≡ get_or w j 0
  pub near : (j : ℕ) → 16 * kept w ≤ j → j < 16 * count w → get_or w' (8192 + j) 0 ≡ get_or w (8192 + 16 * capacity w + j) 0
  pub between : (j : ℕ) → 8192 + 16 * count w ≤ j → j < 8192 + 16 * (capacity w + kept w) → get_or w' j 0 ≡ get_or w j 0
  pub far : (j : ℕ) → 16 * kept w ≤ j → j < 16 * count w → get_or w' (8192 + 16 * capacity w + j) 0 ≡ 0
  pub past : (j : ℕ) → 8192 + 16 * (capacity w + count w) ≤ j → get_or w' j 0 ≡ get_or w j 0

-- ---- chains anew
-- the first a nodes are chained, and no other
pub record Bare (w : List ℕ) (a : ℕ) : Type 0 where
  pub room : 8192 + 32 * capacity w ≤ length w
  pub most : capacity w ≤ 4096
  pub within : count w ≤ capacity w
  pub upto : a ≤ count w
  pub links : (i : ℕ) → i < a → link w i ≡ last_of (hash_at w) (hash_at w i) i
  pub heads : (h : ℕ) → h < 4096 → bucket w h ≡ last_of (hash_at w) h a

-- each link and chain head says the last node before of its hash; every other word is kept
pub record Relinked (w w' : List ℕ) : Type 0 where
  pub long : length w' ≡ length w
  pub front : (j : ℕ) → j < 4096 → head w' j ≡ head w j
  pub words : (i r : ℕ) → i < count w → r < 16 → (r ≡ 13 → ⊥) → word w' i r ≡ word w i r
  pub links : (i : ℕ) → i < count w → link w' i ≡ last_of (hash_at w) (hash_at w i) i
  pub heads : (h : ℕ) → h < 4096 → bucket w' h ≡ last_of (hash_at w) h (count w)
  pub after : (j : ℕ) → 8192 + 16 * count w ≤ j → get_or w' j 0 ≡ get_or w j 0
