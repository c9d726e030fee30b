-- Contract between layers: what a walk remembers of each node, in the far records. Assumes nothing.
use Rattle.std.specs.Prelude.{◌≡◌, List, ℕ, ◌+◌, ◌*◌, ◌≤◌, ◌<◌, get_or}
use Rattle.promises.specs.Words.{capacity, bound}

-- the note of node i, the first word of far record i: 0, or 1 + a branch word
abbrev pub note_at : List ℕ → ℕ → ℕ
note_at w i = 8192 + 16 * (capacity w + i)

abbrev pub note : List ℕ → ℕ → ℕ
note w i = get_or w (note_at w i) 0

-- the far words other than the notes of nodes a to n - 1 are 0
pub record Only (w : List ℕ) (a n : ℕ) : Type 0 where
  pub zeros : (j : ℕ) → 8192 + 16 * capacity w ≤ j → j < bound (capacity w) → ((i : ℕ) → a ≤ i → i < n → j ≡ note_at w i → ⊥) → get_or w j 0 ≡ 0
