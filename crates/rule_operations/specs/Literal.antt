-- Contract between layers: the bits of a literal. Assumes nothing.
use Rattle.std.specs.Prelude.{◌≡◌, List, ℕ, ◌≤◌, ◌<◌, length}
use Rattle.promises.specs.Operators.{bit_of}
use Rattle.table_words.specs.Words.{listed}

-- the list's words are the bits of the values below m, and 0 past them
pub record BitList (x m : ℕ) (l : List ℕ) : Type 0 where
  pub each : (v : ℕ) → v < m → listed l v ≡ bit_of x v
  pub pad : (v : ℕ) → m ≤ v → v < 12 → listed l v ≡ 0
  pub long : length l ≡ 12
