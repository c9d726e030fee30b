-- Contract between layers: words of integers that may have none. Assumes nothing.
use Rattle.std.specs.Prelude.{◌≡◌, ℕ, ◌<◌, ℤ, Option, Some, None}
use Rattle.promises.specs.Integers.{Fit, int}
use Rattle.promises.specs.Range.{add_most}

-- the word r, no 0, stands for z; None says that z lies outside ±2,000,000,000
abbrev pub Stands : ℤ → Option ℕ → Type 0
Stands z (Some r) = (0 < r) × (int r ≡ z)
Stands z None = Fit add_most z → ⊥
