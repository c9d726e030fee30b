-- Contract between layers: a table while a call works has notes in its far records: the words without them. Assumes nothing.
use Rattle.std.specs.Prelude.{◌≡◌, List, ℕ, ◌+◌, ◌*◌, ◌≤◌, ◌<◌, ltb, length, get_or}
use Rattle.promises.specs.Tab.{tab}
use Rattle.promises.specs.Words.{capacity, bound, pick, Zeros}

-- the words have room for the far records
pub record Roomy (w : List ℕ) : Type 0 where
  pub room : bound (capacity w) ≤ length w
  pub most : capacity w ≤ 4096

-- the words with the far records 0
abbrev pub plain_at : List ℕ → ℕ → ℕ
plain_at w j = pick (ltb j (8192 + 16 * capacity w)) (get_or w j 0) (pick (ltb j (bound (capacity w))) 0 (get_or w j 0))

unfoldable pub plain : List ℕ → List ℕ
plain w = tab (plain_at w) (length w)

-- the far records are there, and hold nothing
pub record Resting (w : List ℕ) : Type 0 where
  pub roomy : Roomy w
  pub some : 1 ≤ capacity w
  pub empty : Zeros w (8192 + 16 * capacity w) (bound (capacity w))

-- all words are 0
pub record Cleared (s : List ℕ) : Type 0 where
  pub zero : (j : ℕ) → j < length s → get_or s j 0 ≡ 0
