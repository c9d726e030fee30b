-- Contract between layers: what the stepper's inner loop leaves in its 16 places. Assumes nothing.
use Rattle.std.specs.Prelude.{◌≡◌, List, length, take, drop, ℕ, Option, Some, None}
use Rattle.std.proofs.Math.Option as M
use Rattle.settings.specs.Step.{next_of}

-- the places of the features hold the next setting, and the places after them stay; or there is no next setting
abbrev pub Turns : List ℕ → List ℕ → Option (List ℕ) → Type 0
Turns S values (Some to) = (next_of S (take (length S) values) ≡ M.some (take (length S) to)) × (drop (length S) to ≡ drop (length S) values)
Turns S values None = next_of S (take (length S) values) ≡ M.none
