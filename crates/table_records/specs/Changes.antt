-- Contract between layers: one record more, one fewer, the records from n on taken away, and a record found. Assumes nothing.
use Rattle.std.specs.Prelude.{◌≡◌, List, ℕ, zero, suc, Option, Some, None, ◌+◌, ◌*◌, ◌≤◌, ◌<◌, length, get_or}
use Rattle.table_words.specs.Words.{listed, Kept}
use Rattle.table_records.specs.Laid.{Laid}
use Rattle.promises.specs.Words.{head, word, count, feature, body, link, bucket, hash_of, hash_at}

-- the first of two, else the second
abbrev pub pair_of : ℕ → ℕ → ℕ → ℕ
pair_of x y zero = x
pair_of x y (suc j) = y

-- w' is w with one record more at the end, of feature k, body l and spare words x and y, first of its chain
pub record Pushed (w w' : List ℕ) (k : ℕ) (l : List ℕ) (x y : ℕ) : Type 0 where
  pub long : length w' ≡ length w
  pub header : (j : ℕ) → j < 8192 → (j ≡ 19 → ⊥) → (j ≡ 4096 + hash_of k (listed l) → ⊥) → head w' j ≡ head w j
  pub first : bucket w' (hash_of k (listed l)) ≡ count w + 1
  pub more : count w' ≡ count w + 1
  pub old : (i j : ℕ) → i < count w → j < 16 → word w' i j ≡ word w i j
  pub feature : feature w' (count w) ≡ k
  pub new : (v : ℕ) → v < 12 → body w' (count w) v ≡ listed l v
  pub next : link w' (count w) ≡ bucket w (hash_of k (listed l))
  pub spare : (j : ℕ) → j < 2 → word w' (count w) (14 + j) ≡ pair_of x y j
  pub after : (j : ℕ) → 8192 + 16 * count w + 16 ≤ j → get_or w' j 0 ≡ get_or w j 0

-- w' is w with its last record, i, taken away
pub record Popped (w w' : List ℕ) (i : ℕ) : Type 0 where
  pub long : length w' ≡ length w
  pub header : (j : ℕ) → j < 8192 → (j ≡ 19 → ⊥) → (j ≡ 4096 + hash_at w i → ⊥) → head w' j ≡ head w j
  pub first : bucket w' (hash_at w i) ≡ link w i
  pub fewer : count w' ≡ i
  pub old : (n j : ℕ) → n < i → j < 16 → word w' n j ≡ word w n j
  pub zero : (j : ℕ) → 8192 + 16 * i ≤ j → j < 8192 + 16 * i + 16 → get_or w' j 0 ≡ 0
  pub after : (j : ℕ) → 8192 + 16 * i + 16 ≤ j → get_or w' j 0 ≡ get_or w j 0

-- w' is w with the records from n on taken away
pub record Rolled (w w' : List ℕ) (n : ℕ) : Type 0 where
  pub kept : Kept w w'
  pub laid : Laid w'
  pub fewer : count w' ≡ n
  pub old : (i j : ℕ) → i < n → j < 16 → word w' i j ≡ word w i j

-- record i has the feature k and the body l
pub record RecordIs (w : List ℕ) (i k : ℕ) (l : List ℕ) : Type 0 where
  pub feature : feature w i ≡ k
  pub each : (v : ℕ) → v < 12 → body w i v ≡ listed l v

-- r is the index of a record in use that has the feature k and the body l, or none where there is no such record
abbrev pub Finds : List ℕ → ℕ → List ℕ → Option ℕ → Type 0
Finds w k l (Some i) = (i < count w) × RecordIs w i k l
Finds w k l None = (i : ℕ) → i < count w → RecordIs w i k l → ⊥
