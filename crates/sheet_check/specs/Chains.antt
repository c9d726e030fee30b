-- Contract between layers: a hash of a node of a sheet's bytes, and chains of the nodes of one hash: a chain's word c is 0, or one more than a node's index. Assumes nothing.
use Rattle.std.specs.Prelude.{◌≡◌, List, ℕ, zero, suc, ◌+◌, ◌*◌, ◌-◌, ◌/◌, ◌%◌, ◌≤◌, ◌<◌, get_or}
use Rattle.promises.specs.Sheet.{sheet_feature as feature, sheet_width as width, sheet_branch as branch}

unfoldable pub hash_to : List ℕ → ℕ → ℕ → ℕ
hash_to s i zero = feature s i
hash_to s i (suc v) = (hash_to s i v * 2654435761 + branch s i v) % 4294967296

unfoldable pub hash : List ℕ → ℕ → ℕ
unfolding hash_to
hash s i = hash_to s i (width s i) / 1048576

-- c - 1 is the last node before e of hash h, or c is 0 and there is none
pub record Chain (s : List ℕ) (h c e : ℕ) : Type 0 where
  pub within : c ≤ e
  pub hashed : 0 < c → hash s (c - 1) ≡ h
  pub gap : (j : ℕ) → c ≤ j → j < e → hash s j ≡ h → ⊥

-- the first m nodes are chained
pub record Chained (s heads links : List ℕ) (m : ℕ) : Type 0 where
  pub buckets : (h : ℕ) → h < 4096 → Chain s h (get_or heads h 0) m
  pub chain : (i : ℕ) → i < m → Chain s (hash s i) (get_or links i 0) i
