-- Contract between layers: the settings that the stepper meets, one after the other, from all zeros. Assumes nothing.
use Rattle.std.proofs.Math.Option.{Option, some, none}
use Rattle.std.specs.Prelude.{List, ℕ, zero, suc}
use Rattle.theory.specs.Settings.{zeros}
use Rattle.settings.specs.Step.{next_of}

-- one step on; after the last setting nothing comes
abbrev pub onward : List ℕ → Option (List ℕ) → Option (List ℕ)
onward S (some s) = next_of S s
onward S none = none

-- the setting met after i steps
abbrev pub visited : List ℕ → ℕ → Option (List ℕ)
visited S zero = some (zeros S)
visited S (suc i) = onward S (visited S i)
