-- Contract between layers: the collector's walk, for every kind: what it asks of the words, and what it does to them, step by step.
-- `first` tells the kind: branch words below it end, the others say nodes. Assumes nothing.
use Rattle.std.specs.Prelude.{◌≡◌, List, ℕ, suc, Option, Some, None, ◌+◌, ◌≤◌, ◌<◌, length, set}
use Rattle.theory.specs.Copying.{marked}
use Rattle.table_words.specs.Words.{listed, way_of}
use Rattle.table_sweep.specs.Marks.{kept, done, mark, highest}
use Rattle.table_sweep.specs.Sweeping.{Unlinked, Put, Brought, Relinked}
use Rattle.promises.specs.Words.{head, capacity, size, count, bound, feature, body, link, bucket, hash_at, last_of}
use Rattle.promises.specs.CostWords.{goes, added}

-- ---- a branch laid into a body
-- below n, g is f but for x at v
pub record Changed (n : ℕ) (f g : ℕ → ℕ) (v x : ℕ) : Type 0 where
  pub here : g v ≡ x
  pub others : (u : ℕ) → u < n → (u ≡ v → ⊥) → g u ≡ f u

-- h is the body g, but branch v has the word r and adds what it adds in the body f
pub record Laid (first : ℕ) (f g h : ℕ → ℕ) (v r : ℕ) : Type 0 where
  pub whole : (first ≡ 1 → ⊥) → Changed 12 g h v r
  pub halves : first ≡ 1 → Changed 8 (goes g) (goes h) v r
  pub adds : first ≡ 1 → Changed 8 (added g) (added h) v (added f v)

-- ---- what is asked
-- the nodes can be walked: their branches end or go to earlier nodes
pub record Walkable (first : ℕ) (w : List ℕ) : Type 0 where
  pub least : first ≤ 65536
  pub room : bound (capacity w) ≤ length w
  pub most : capacity w ≤ 4096
  pub within : count w ≤ capacity w
  pub fits : (i : ℕ) → i < count w → (feature w i < 16) × (size w (feature w i) ≤ 8)
  pub lower : (i v : ℕ) → i < count w → v < size w (feature w i) → way_of first (body w i) v < first + i

-- and there are as many copies as nodes are marked, with those that stay
pub record Open (first : ℕ) (w : List ℕ) : Type 0 where
  pub walkable : Walkable first w
  pub tallied : done w ≡ marked (mark w) (count w)
  pub marks : (i : ℕ) → i < count w → mark w i ≤ done w
  pub stay : kept w ≤ done w

-- the first n roots end or go to nodes
pub record Rooted (first n : ℕ) (w : List ℕ) : Type 0 where
  pub many : n ≤ 32
  pub rooted : (p : ℕ) → p < n → head w (32 + p) < first + count w

-- both, and the nodes are chained; p is a place, or their number
pub record Lawful (first n p : ℕ) (w : List ℕ) : Type 0 where
  pub walkable : Walkable first w
  pub rooted : Rooted first n w
  pub place : p ≤ n
  pub links : (i : ℕ) → i < count w → link w i ≡ last_of (hash_at w) (hash_at w i) i
  pub heads : (h : ℕ) → h < 4096 → bucket w h ≡ last_of (hash_at w) h (count w)

-- ---- what is done
-- the branch word b becomes r; the first v branches of node i stand in the body l; the roots from place p to q are set
pub data Step : Type 0 where
  moves_step : ℕ → ℕ → Step
  turns_step : ℕ → ℕ → List ℕ → Step
  roots_step : ℕ → ℕ → Step

-- DONE: by this step the words became others
pub data Done (first : ℕ) : List ℕ → List ℕ → Step → Type 0 where
  -- an end is its own copy
  ends : (w : List ℕ) (b : ℕ) → b < first → Done first w w (moves_step b b)
  -- a node that has a copy
  found : (w : List ℕ) (b r i j : ℕ) → b ≡ first + i → r ≡ first + j → i < count w → mark w i ≡ suc j → Done first w w (moves_step b r)
  -- a node that has none: with its branches copied it is the next copy
  copied : {w t t' l : List ℕ} (b r i : ℕ) → b ≡ first + i → r ≡ first + done t → i < count w → mark w i ≡ 0 →
      Done first w t (turns_step i (size w (feature w i)) l) → Put t t' i l → Done first w t' (moves_step b r)
  -- no branch in an empty body, and one more
  empty : (w l : List ℕ) (i : ℕ) → ((u : ℕ) → u < 12 → listed l u ≡ 0) → Done first w w (turns_step i 0 l)
  laid : {w t t' l l' : List ℕ} {i v : ℕ} (r : ℕ) → Done first w t (turns_step i v l) → i < count w → v < size w (feature w i) →
      Done first t t' (moves_step (way_of first (body t i) v) r) → Laid first (body t' i) (listed l) (listed l') v r → Done first w t' (turns_step i (suc v) l')
  -- no root, and one more
  rootless : (w : List ℕ) (p : ℕ) → Done first w w (roots_step p p)
  rooted : {w t t' : List ℕ} {p q : ℕ} (r : ℕ) → Done first w t (roots_step p q) → q < 32 → Done first t t' (moves_step (head t (32 + q)) r) → Done first w (set t' (32 + q) r) (roots_step p (suc q))

-- the word of a copy that is there already, or none of a node without one
abbrev pub Here : ℕ → List ℕ → ℕ → Option ℕ → Type 0
Here first w b (Some r) = Done first w w (moves_step b r)
Here first w b None = (first ≤ b) × ((i : ℕ) → b ≡ first + i → mark w i ≡ 0)

-- the whole: the nodes above the roots before place p taken out of the chains, the roots from p to n copied, the copies brought back, chained anew
pub record Swept (first n p : ℕ) (w w' : List ℕ) : Type 0 where
  pub bare : List ℕ
  pub spread : List ℕ
  pub back : List ℕ
  pub unlinks : Unlinked w bare (highest first w p)
  pub copies : Done first bare spread (roots_step p n)
  pub brings : Brought spread back
  pub links : Relinked back w'
