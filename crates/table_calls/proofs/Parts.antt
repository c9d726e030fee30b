-- A part of a slice written: the words in it, and those before and after. Assumes nothing.
use mathlib.Core.Path.{◌≡◌}
use mathlib.Core.List.{List}
use Prim.Native.Nat.{ℕ, ◌+◌, ◌-◌, ◌≤◌, ◌<◌}
use lib.ListN.{length, get_or}
use borrow.Author.Rules.{rules}
use borrow.Rule.Slice.PartMut.{put_mid}
use Rattle.std.proofs.lemmas.List.{places}

module _ (a k : ℕ) (xs ys : List ℕ) (long : length ys ≡ k) (there : a + k ≤ length xs) (j : ℕ) where
  pub part_inside : a ≤ j → j < a + k → get_or (put_mid a k xs ys) j 0 ≡ get_or ys (j - a) 0
  part_inside h g = search (rules, places)

  pub part_before : j < a → get_or (put_mid a k xs ys) j 0 ≡ get_or xs j 0
  part_before h = search (rules, places)

  pub part_after : a + k ≤ j → get_or (put_mid a k xs ys) j 0 ≡ get_or xs j 0
  part_after h = search (rules, places)
