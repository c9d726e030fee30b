-- Contract between layers: how a kind of sheet lays out a branch, in as many bytes as it needs. Assumes nothing.
use Rattle.std.specs.Prelude.{◌≡◌, List, ◌++◌, ℕ, suc, ◌≤◌, ◌<◌, length, drop}
use Rattle.theory.specs.Kind.{Kind}
use Rattle.theory.specs.Diagrams.{Branch}
use Rattle.promises.specs.Sheet.{byte}

pub record Hand (K : Kind) : Type 1 where
  -- the bytes of a branch, and which branches have them
  pub bytes : Branch K → List ℕ
  pub Small : Branch K → Type 0
  -- of branches one after the other from p on, where branch v begins
  pub spot : List ℕ → ℕ → ℕ → ℕ
  -- what the bytes at p say, and when they are a branch
  pub says : List ℕ → ℕ → Branch K
  pub Fine : List ℕ → ℕ → Type 0

-- what is written is read, and what is read is written again
pub record Fair {K : Kind} (H : Hand K) : Type 0 where
  pub none : (s : List ℕ) (p : ℕ) → H.spot s p 0 ≡ p
  pub more : (s : List ℕ) (p v : ℕ) → H.spot s p (suc v) ≡ H.spot s (H.spot s p v) 1
  pub ahead : (s : List ℕ) (p : ℕ) → p < H.spot s p 1
  pub narrow : (b : Branch K) → H.Small b → (q : ℕ) → byte (H.bytes b) q < 256
  pub reads : (s : List ℕ) (p : ℕ) (b : Branch K) (r : List ℕ) → H.Small b → drop p s ≡ H.bytes b ++ r →
      (H.says s p ≡ b) × (drop (H.spot s p 1) s ≡ r) × H.Fine s p
  pub back : (s : List ℕ) (p : ℕ) → ((q : ℕ) → byte s q < 256) → H.Fine s p → (H.spot s p 1 ≤ length s) × (drop p s ≡ H.bytes (H.says s p) ++ drop (H.spot s p 1) s)
