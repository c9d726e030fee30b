-- Contract between layers: the words of a table of any kind: header, records, chains. Assumes nothing.
use Rattle.std.specs.Prelude.{◌≡◌, List, ℕ, ◌+◌, ◌*◌, ◌≤◌, ◌<◌, eqb, length, get_or}
use Rattle.promises.specs.Words.{head, capacity, pick}
use Rattle.promises.specs.CostWords.{goes}

abbrev pub kind : List ℕ → ℕ
kind w = head w 0

abbrev pub listed : List ℕ → ℕ → ℕ
listed l v = get_or l v 0

-- the word of branch v of a body, where branch words below `first` end and the others say nodes (1: half words, else whole ones)
abbrev pub way_of : ℕ → (ℕ → ℕ) → ℕ → ℕ
way_of first f v = pick (eqb first 1) (goes f v) (f v)

-- ---- frames
-- w' is w but for its near records, their chains and their count
pub record Kept (w w' : List ℕ) : Type 0 where
  pub long : length w' ≡ length w
  pub header : (j : ℕ) → j < 4096 → (j ≡ 19 → ⊥) → head w' j ≡ head w j
  pub past : (j : ℕ) → 8192 + 16 * capacity w ≤ j → get_or w' j 0 ≡ get_or w j 0
