-- Words set one after another are the results laid over the front. Assumes nothing.
use Rattle.std.proofs.Common.{◌≡◌, List, [], ◌∷◌, ℕ, ◌+◌, ◌≤◌, ◌<◌, zero, suc, length, get_or, set, take, ap, refl, sym, ◌∙◌, add-one, arith}
use Rattle.std.proofs.lemmas.List.{set_past}
use Rattle.promises.specs.ForC.{placed}

placed_suc : (l o : List ℕ) (k : ℕ) → k < length l → set (placed (take k l) o) k (get_or l k 0) ≡ placed (take (suc k) l) o
placed_suc [] o k h = absurd (omega arith)
placed_suc (x ∷ l) [] zero h = refl
placed_suc (x ∷ l) [] (suc k) h = refl
placed_suc (x ∷ l) (y ∷ o) zero h = refl
placed_suc (x ∷ l) (y ∷ o) (suc k) h = ap (λ q. x ∷ q) (placed_suc l o k (omega arith))

-- one result more, where there is room for it
pub placed_more : (l o : List ℕ) (k : ℕ) → k < length l → set (placed (take k l) o) k (get_or l k 0) ≡ placed (take (k + 1) l) o
placed_more l o k h = rw add-one (placed_suc l o k h)

-- and where there is none
pub placed_full : (l o : List ℕ) (k : ℕ) → k < length l → length (placed (take k l) o) ≤ k → placed (take k l) o ≡ placed (take (k + 1) l) o
placed_full l o k h m = sym (set_past _ k (get_or l k 0) m) ∙ placed_more l o k h
