-- Contract between layers: FORGETTING IN THE CUSTOMER'S WORDS, of the numbers l over the values of the forgotten feature: now, and as it was first asked for. Assumes nothing.
use Rattle.std.specs.Prelude.{◌≡◌, ℕ}
use mathlib.Core.List.{List, [], ◌∷◌, Memᴰ}
use Rattle.promises.specs.Operators.{greater_of as larger_of}

-- the number x occurs
abbrev pub Occurs : ℕ → List ℕ → Type 0
Occurs x l = Memᴰ x l

-- WHAT IS LEFT
pub data Left (l : List ℕ) : ℕ → Type 0 where
  -- if no number but 0 occurs, 0
  no_other : ((x : ℕ) → Occurs x l → x ≡ 0) → Left l 0
  -- if exactly one other occurs, that one
  one_other : {x : ℕ} → (x ≡ 0 → ⊥) → Occurs x l → ((y : ℕ) → Occurs y l → (y ≡ 0 → ⊥) → y ≡ x) → Left l x
  -- if two or more differ, 65,535
  others_differ : {x y : ℕ} → (x ≡ 0 → ⊥) → (y ≡ 0 → ⊥) → (x ≡ y → ⊥) → Occurs x l → Occurs y l → Left l 65535

-- as it was first asked for: the largest
unfoldable pub largest_of : List ℕ → ℕ
largest_of [] = 0
largest_of (x ∷ l) = larger_of x (largest_of l)
