-- Contract between layers: prices that fit a feature of the table, and the branches that stand for them. Assumes nothing.
use Rattle.std.specs.Prelude.{◌≡◌, List, ℕ, ◌<◌, ℤ, pos, length, get_or}
use Rattle.cost_words.specs.Words.{tos, adding}
use Rattle.cost_words.specs.declared.Arm.{Arm}
use Rattle.promises.specs.Words.{features, size}
use Rattle.promises.specs.Integers.{int}
use Rattle.promises.specs.CostDeeds.{Priced}

-- a price for each value of feature f of the table
pub record Listed (f : ℕ) (l : List ℤ) (w : List ℕ) : Type 0 where
  pub known : f < features w
  pub long : length l ≡ size w f
  pub priced : Priced l

-- the branches go to the end and add the prices
pub record Worded (l : List ℤ) (b : List Arm) : Type 0 where
  pub each : (v : ℕ) → v < length l → int (adding b v) ≡ get_or l v (pos 0)
  pub ends : (v : ℕ) → v < 8 → tos b v ≡ 0
