-- Contract between layers: bytes written over an output: where a cursor stands, and from its front on where they fit. Assumes nothing.
use Rattle.std.specs.Prelude.{◌≡◌, List, ◌++◌, ℕ, ◌+◌, ◌≤◌, ◌<◌, length, drop, Option, Some, None}
use Rattle.std.proofs.lemmas.List.Edits.{sets}
use Rattle.sheet_laying.specs.declared.bytes.Cursor.{Cursor}

-- the bytes s stand in front, what was past them after them, and r is their number; where they have no room nothing is written, and there is no number
pub record Laid (s out out' : List ℕ) (r : Option ℕ) : Type 0 where
  pub short : length out < length s → (r ≡ None) × (out' ≡ out)
  pub fits : length s ≤ length out → (r ≡ Some (length s)) × (out' ≡ s ++ drop (length s) out)

-- the bytes l stand in the output from where the cursor stood, which then stands where they end, in the same output
pub record Puts (l : List ℕ) (c c' : Cursor) : Type 0 where
  pub same : c'.out.ghost_name ≡ c.out.ghost_name
  pub bytes : c'.out.now ≡ sets c.out.now c.at l
  pub ends : c'.at ≡ c.at + length l
