-- Contract between layers: what the words of a table of any kind are: every word but the header's, the bodies, the spare words and what lies past the near records follows from
-- the records. Assumes nothing.
use Rattle.std.specs.Prelude.{◌≡◌, List, ℕ, ◌+◌, ◌*◌, ◌≤◌, ◌<◌, length, get_or}
use Rattle.promises.specs.Words.{capacity, features, size, count, feature, link, bucket, hash_at, last_of}

pub record Laid (w : List ℕ) : Type 0 where
  pub room : 8192 + 16 * capacity w ≤ length w
  pub within : count w ≤ capacity w
  pub most : capacity w ≤ 4096
  pub few : features w ≤ 16
  pub large : (k : ℕ) → k < features w → (2 ≤ size w k) × (size w k ≤ 8)
  -- each record tests a feature
  pub tests : (i : ℕ) → i < count w → feature w i < features w
  -- a link names the last earlier record of the same hash, a chain head the last record of its hash
  pub links : (i : ℕ) → i < count w → link w i ≡ last_of (hash_at w) (hash_at w i) i
  pub heads : (h : ℕ) → h < 4096 → bucket w h ≡ last_of (hash_at w) h (count w)
  -- the near records that are not in use are 0
  pub clean : (j : ℕ) → 8192 + 16 * count w ≤ j → j < 8192 + 16 * capacity w → get_or w j 0 ≡ 0
