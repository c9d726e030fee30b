-- Contract between layers: the chains of a sound table: each node linked, no node with a twin. Assumes nothing.
use Rattle.std.specs.Prelude.{◌≡◌, List, ℕ, ◌+◌, ◌*◌, ◌≤◌, ◌<◌, length, get_or}
use Rattle.promises.specs.Words.{capacity, count, bucket}

-- the nodes in use lie within the words
pub record Framed (w : List ℕ) : Type 0 where
  pub most : capacity w ≤ 4096
  pub room : 8192 + 32 * capacity w ≤ length w
  pub within : count w ≤ capacity w

-- the chain heads are those that the list says
pub record Headed (w last : List ℕ) : Type 0 where
  pub heads : (h : ℕ) → h < 4096 → bucket w h ≡ get_or last h 0
