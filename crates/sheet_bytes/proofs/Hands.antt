-- Branches one after the other, each in as many bytes as its kind gives it: where they begin, read, and written again. Assumes nothing.
use mathlib.Core.Path.{◌≡◌, refl, sym, ap, ◌∙◌}
use mathlib.Core.List.{List, ◌++◌}
use Prim.Native.Nat.{ℕ, zero, suc, ◌+◌, ◌-◌, ◌≤◌, ◌<◌}
use native.Mathlib.Nat.{zero-add}
use native.Mathlib.Omega.{arith}
use lib.ListN.{length, get_or, drop}
use Rattle.theory.specs.Kind.{Kind}
use Rattle.theory.specs.Diagrams.{Branch, blank}
use Rattle.promises.specs.Sheet.{row}
use Rattle.sheet_bytes.specs.Sections.{branches_bytes}
use Rattle.sheet_bytes.specs.Hand.{Hand, Fair}
use Rattle.sheet_bytes.proofs.Sections.{Bytes, slid, items_rest, items_back}

-- every branch of a list has bytes
abbrev pub Smalls : {K : Kind} → Hand K → List (Branch K) → Type 0
Smalls H bs = (v : ℕ) → v < length bs → H.Small (get_or bs v blank)

-- places one after the other
up : (f : ℕ → ℕ) → ((i : ℕ) → f i < f (suc i)) → (i n : ℕ) → f i + n ≤ f (i + n)
up f h i zero = let e : i + 0 ≡ i = omega arith in rw e (omega arith)
up f h i (suc n) = let e : i + suc n ≡ suc (i + n) = omega arith in rw e (omega (arith, h (i + n), up f h i n))

pub rising : (f : ℕ → ℕ) → ((i : ℕ) → f i < f (suc i)) → (i j : ℕ) → i ≤ j → f i + (j - i) ≤ f j
rising f h i j l = let e : i + (j - i) ≡ j = omega arith in rw e at (up f h i (j - i))

module _ {K : Kind} {H : Hand K} (F : Fair H) (s : List ℕ) where
  -- ---- where they begin
  steps : (p v : ℕ) → H.spot s p v < H.spot s p (suc v)
  steps p v = omega (arith, F.more s p v, F.ahead s (H.spot s p v))

  pub spot_le : (p u v : ℕ) → u ≤ v → H.spot s p u ≤ H.spot s p v
  spot_le p u v h = omega (arith, rising (H.spot s p) (steps p) u v h)

  -- each has a byte or more
  pub spot_far : (p v : ℕ) → p + v ≤ H.spot s p v
  spot_far p v = omega (arith, rising (H.spot s p) (steps p) 0 v (omega arith), F.none s p)

  -- ---- what was written is read
  pub branches_rest : (bs : List (Branch K)) (q : ℕ) (r : List ℕ) → Smalls H bs → drop q s ≡ branches_bytes H.bytes bs ++ r →
      ((v : ℕ) → v < length bs → (H.says s (H.spot s q v) ≡ get_or bs v blank) × H.Fine s (H.spot s q v)) × (drop (H.spot s q (length bs)) s ≡ r)
  unfolding branches_bytes
  branches_rest bs q r a e =
      items_rest H.bytes (branches_bytes H.bytes) refl (λ b l. refl) s (H.spot s q) (λ v. (H.says s (H.spot s q v) ≡ get_or bs v blank) × H.Fine s (H.spot s q v)) blank bs r
      (slid s (H.spot s q 0) q (F.none s q) ∙ e)
      (λ v h t p. let x = F.reads s (H.spot s q v) (get_or bs v blank) t (a v h) p in ((x.0, x.2), slid s (H.spot s q (suc v)) (H.spot s (H.spot s q v) 1) (F.more s q v) ∙ x.1))

  -- ---- what is read is written again
  module _ (B : Bytes s) (q : ℕ) where
    pub branches_back : (n : ℕ) → ((v : ℕ) → v < n → H.Fine s (H.spot s q v)) →
        drop q s ≡ branches_bytes H.bytes (row 0 n (λ v. H.says s (H.spot s q v))) ++ drop (H.spot s q n) s
    unfolding branches_bytes
    branches_back n l =
        slid s q (H.spot s q 0) (sym (F.none s q))
        ∙ items_back H.bytes (branches_bytes H.bytes) refl (λ b l. refl) s (H.spot s q) (λ v. H.says s (H.spot s q v)) n 0 n (zero-add n)
        (λ v d. (F.back s (H.spot s q v) B (l v d)).1
        ∙ ap (λ (r : List ℕ). H.bytes (H.says s (H.spot s q v)) ++ r) (slid s (H.spot s (H.spot s q v) 1) (H.spot s q (suc v)) (sym (F.more s q v))))

    -- they lie within the bytes
    pub branches_inside : (n : ℕ) → q ≤ length s → ((v : ℕ) → v < n → H.Fine s (H.spot s q v)) → H.spot s q n ≤ length s
    branches_inside zero h l = omega (arith, F.none s q)
    branches_inside (suc n) h l = omega (arith, F.more s q n, (F.back s (H.spot s q n) B (l n (omega arith))).0)
