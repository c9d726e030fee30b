-- Contract between layers: where a walk over a table remembers: in the scratch, or in a window of the far records. Assumes nothing.
use Rattle.std.specs.Prelude.{◌≡◌, List, ℕ, ◌+◌, ◌*◌, ◌-◌, ◌≤◌, ◌<◌, ltb, get_or, take, drop}
use Rattle.table_notes.specs.Plain.{Roomy, Cleared, plain}
use Rattle.promises.specs.Words.{capacity, pick}

-- the words of the far records
unfoldable pub far : List ℕ → List ℕ
far w = take (16 * capacity w) (drop (8192 + 16 * capacity w) w)

-- how many of them, from the first on, remember: the last one says it, and 0 that the scratch does
unfoldable pub window : List ℕ → ℕ
window w = get_or (far w) (16 * capacity w - 1) 0

-- the words that remember, of the table w and the scratch s
abbrev pub memory : List ℕ → List ℕ → List ℕ
memory w s = pick (ltb 0 (window w)) (take (window w) (far w)) s

-- w' remembers what w does
pub record Aside (w w' : List ℕ) : Type 0 where
  pub room : capacity w' ≡ capacity w
  pub words : far w' ≡ far w

-- past the window the far records are 0, but for the word that says it
pub record Windowed (w : List ℕ) : Type 0 where
  pub roomy : Roomy w
  pub some : 1 ≤ capacity w
  pub short : window w < 16 * capacity w
  pub empty : (j : ℕ) → window w ≤ j → j + 1 < 16 * capacity w → get_or (far w) j 0 ≡ 0

-- w' is w with the choice of where a walk remembers: there is nothing yet once the n words that it is lent of the scratch are 0
pub record Begun (w w' : List ℕ) (lent n : ℕ) : Type 0 where
  pub fits : n ≤ lent
  pub same : plain w' ≡ plain w
  pub windowed : Windowed w'
  pub none : (s : List ℕ) → Cleared s → Cleared (memory w' s)
