-- Contract between layers: the header of a sound table, and the words that are 0 in it. Assumes nothing.
use Rattle.std.specs.Prelude.{◌≡◌, List, ℕ, ◌+◌, ◌*◌, ◌≤◌, ◌<◌, length}
use Rattle.theory.specs.Kind.{Kind}
use Rattle.table_words.specs.Table.{Table}
use Rattle.promises.specs.Sound.{Sizes}
use Rattle.promises.specs.Words.{head, capacity, features, count, Zeros}

-- the header's numbers: kind, capacity, features and nodes in use, and room for the capacity's records
pub record Front (k : ℕ) (w : List ℕ) : Type 0 where
  pub kind : head w 0 ≡ k
  pub some : 1 ≤ capacity w
  pub most : capacity w ≤ 4096
  pub room : 8192 + 32 * capacity w ≤ length w
  pub one : 1 ≤ features w
  pub few : features w ≤ 16
  pub within : count w ≤ capacity w

-- the header of the table T: as the promise says it, but that the words 20 and 21 are its shares
pub record HeaderOf {K : Kind} (T : Table K) (w : List ℕ) : Type 0 where
  pub front : Front T.number w
  pub fit : Sizes w
  pub past : Zeros w (3 + features w) 19
  pub shares : (j : ℕ) → j < 2 → head w (20 + j) ≡ T.share j
  pub unused : Zeros w 22 32
  pub middle : Zeros w 64 4096
  pub clean : Zeros w (8192 + 16 * count w) (8192 + 32 * capacity w)
