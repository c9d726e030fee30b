-- Contract between layers: the 16 places that hold a setting. Assumes nothing.
use Rattle.std.specs.Prelude.{◌≡◌, List, ℕ, ◌<◌, length, get_or, drop}

-- r is v but for the places from k up to n
pub record Keeps (n k : ℕ) (v r : List ℕ) : Type 0 where
  pub sized : length r ≡ 16
  pub front : (j : ℕ) → j < k → get_or r j 0 ≡ get_or v j 0
  pub back : drop n r ≡ drop n v
