-- Feature lists and settings, in the scope's words. A feature list is the list of its sizes; a setting is the list of its values. Assumes nothing.
use Rattle.std.specs.Prelude.{◌≡◌, List, [], ◌∷◌, ℕ, ◌*◌, ◌≤◌, ◌<◌, length, get_or}

-- 1 to 16 sizes, each from 2 to 8
pub record FeatureList (S : List ℕ) : Type 0 where
  pub some : 1 ≤ length S
  pub few : length S ≤ 16
  pub least : (k : ℕ) → k < length S → 2 ≤ get_or S k 0
  pub most : (k : ℕ) → k < length S → get_or S k 0 ≤ 8

-- one value below its size for each feature
abbrev pub Valid : List ℕ → List ℕ → Type 0
Valid [] [] = Unit {0}
Valid [] (v ∷ s) = ⊥
Valid (n ∷ ns) [] = ⊥
Valid (n ∷ ns) (v ∷ s) = (v < n) × Valid ns s

-- every size is at least 1: what the laws of diagrams need of a feature list
abbrev pub Pos : List ℕ → Type 0
Pos [] = Unit {0}
Pos (n ∷ ns) = (0 < n) × Pos ns

-- the setting in which all values are 0
abbrev pub zeros : List ℕ → List ℕ
zeros [] = []
zeros (n ∷ ns) = 0 ∷ zeros ns

-- how many settings there are
abbrev pub product : List ℕ → ℕ
product [] = 1
product (n ∷ ns) = n * product ns

-- dictionary order of two settings of one length
pub data Before : List ℕ → List ℕ → Type 0 where
  sooner : {x y : ℕ} {xs ys : List ℕ} → x < y → length xs ≡ length ys → Before (x ∷ xs) (y ∷ ys)
  later : {x : ℕ} {xs ys : List ℕ} → Before xs ys → Before (x ∷ xs) (x ∷ ys)
