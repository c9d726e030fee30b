-- Contract between layers: what walks remember: words in entries, each the n words of a key, the first of them not 0 (0: empty), and the two words of a result. Assumes nothing.
use Rattle.std.specs.Prelude.{◌≡◌, ◌⊎◌, List, ℕ, Option, Some, None, ◌+◌, ◌*◌, ◌≤◌, ◌<◌, length, get_or, take, drop}
use Rattle.table_notes.specs.Far.{memory, Windowed}
use Rattle.table_notes.specs.Plain.{plain}

-- word j of entry i
abbrev pub noted : ℕ → List ℕ → ℕ → ℕ → ℕ
noted n s i j = get_or s ((n + 2) * i + j) 0

-- the key of entry i
unfoldable pub key_at : ℕ → List ℕ → ℕ → List ℕ
key_at n s i = take n (drop ((n + 2) * i) s)

-- entry i lies within the words
abbrev pub Inside : ℕ → List ℕ → ℕ → Type 0
Inside n s i = (n + 2) * i + (n + 2) ≤ length s

-- each filled entry is right: R says so of its key and of the two words of its result
pub record Remembers (n : ℕ) (R : List ℕ → ℕ → ℕ → Type 0) (s : List ℕ) : Type 0 where
  pub right : (i : ℕ) → Inside n s i → 0 < noted n s i 0 → R (key_at n s i) (noted n s i n) (noted n s i (n + 1))

-- entry i has the key and the result's words x and y
pub record Entry (s : List ℕ) (i : ℕ) (key : List ℕ) (x y : ℕ) : Type 0 where
  pub inside : Inside (length key) s i
  pub keyed : key_at (length key) s i ≡ key
  pub first : noted (length key) s i (length key) ≡ x
  pub second : noted (length key) s i (length key + 1) ≡ y

-- what is known stands in some entry
abbrev pub Recalls : List ℕ → List ℕ → Option (ℕ × ℕ) → Type 0
Recalls s key (Some r) = (i : ℕ) × Entry s i key r.0 r.1
Recalls s key None = Unit {0}

-- every entry of s' is the new one, or as in s
pub record Stored (s s' key : List ℕ) (x y : ℕ) : Type 0 where
  pub long : length s' ≡ length s
  pub entries : (i : ℕ) → Inside (length key) s i → Entry s' i key x y ⊎ ((j : ℕ) → j < length key + 2 → noted (length key) s' i j ≡ noted (length key) s i j)

-- what a walk over the table w remembers, there or in the scratch s, is right: R says so of the words without notes
pub record Noted (n : ℕ) (R : List ℕ → List ℕ → ℕ → ℕ → Type 0) (w s : List ℕ) : Type 0 where
  pub room : Windowed w
  pub right : Remembers n (R (plain w)) (memory w s)
