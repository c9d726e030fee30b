-- How far an integer lies from 0, and the words that stand for integers. Assumes nothing.
use Rattle.std.specs.Prelude.{ℕ, suc, ◌≤◌, ℤ, pos, negsuc}
use Rattle.std.proofs.Math.IntN.{sub_ℕ}

-- how far z lies above 0, and how far below: one of the two is 0
abbrev pub rise : ℤ → ℕ
rise (pos n) = n
rise (negsuc n) = 0

abbrev pub fall : ℤ → ℕ
fall (pos n) = 0
fall (negsuc n) = suc n

-- z lies within ±B
pub record Fit (B : ℕ) (z : ℤ) : Type 0 where
  pub top : rise z ≤ B
  pub bottom : fall z ≤ B

-- a word stands for the integer that is 2,147,483,648 less
abbrev pub bias : ℕ
bias = 2147483648

unfoldable pub int : ℕ → ℤ
int w = sub_ℕ w bias
