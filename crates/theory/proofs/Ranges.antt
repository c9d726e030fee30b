-- Laws of feature lists and their settings: place by place, of all zeros, and that both can be decided. Assumes nothing.
use mathlib.Core.Path.{◌≡◌, refl, ap}
use mathlib.Core.List.{List, [], ◌∷◌, ◌++◌}
use Prim.Native.Nat.{ℕ, zero, suc, ◌≤◌, ◌<◌}
use native.Mathlib.Decide.{dec_le, dec_lt}
use native.Mathlib.Omega.{arith}
use lib.ListN.{length, get_or, drop, take, replicate}
use Rattle.theory.specs.Settings.{FeatureList, Valid, Pos, zeros}
use Rattle.theory.specs.Deciding.{all_decided}
use Rattle.theory.proofs.Lists.{pos_of}

-- a setting has a value for each feature
pub valid_length : (S s : List ℕ) → Valid S s → length s ≡ length S
valid_length [] [] h = refl
valid_length [] (v ∷ s) h = absurd h
valid_length (n ∷ ns) [] h = absurd h
valid_length (n ∷ ns) (v ∷ s) h = ap suc (valid_length ns s h.1)

-- each value is below its size
pub valid_at : (S s : List ℕ) → Valid S s → (k : ℕ) → k < length S → get_or s k 0 < get_or S k 0
valid_at [] s h k l = absurd (omega arith)
valid_at (n ∷ ns) [] h k l = absurd h
valid_at (n ∷ ns) (v ∷ s) h zero l = h.0
valid_at (n ∷ ns) (v ∷ s) h (suc k) l = valid_at ns s h.1 k (omega arith)

-- as many values as features, each below its size, are a setting
pub valid_from : (S s : List ℕ) → length s ≡ length S → ((k : ℕ) → k < length S → get_or s k 0 < get_or S k 0) → Valid S s
valid_from [] [] e h = tt
valid_from [] (v ∷ s) e h = absurd (omega arith)
valid_from (n ∷ ns) [] e h = absurd (omega arith)
valid_from (n ∷ ns) (v ∷ s) e h = (h 0 (omega arith), valid_from ns s (omega arith) (λ k l. h (suc k) (omega arith)))

-- the values from k on are a setting of the features from k on
pub valid_drop : (k : ℕ) (S s : List ℕ) → Valid S s → Valid (drop k S) (drop k s)
valid_drop zero S s h = h
valid_drop (suc k) [] [] h = h
valid_drop (suc k) [] (v ∷ s) h = absurd h
valid_drop (suc k) (n ∷ S) [] h = absurd h
valid_drop (suc k) (n ∷ S) (v ∷ s) h = valid_drop k S s h.1

-- the values below k before a setting of the features from k on are a setting
pub valid_fixed : (k : ℕ) (S s r : List ℕ) → Valid S s → Valid (drop k S) r → Valid S (take k s ++ r)
valid_fixed zero S s r h x = x
valid_fixed (suc k) [] [] r h x = x
valid_fixed (suc k) [] (v ∷ s) r h x = absurd h
valid_fixed (suc k) (n ∷ S) [] r h x = absurd h
valid_fixed (suc k) (n ∷ S) (v ∷ s) r h x = (h.0, valid_fixed k S s r h.1 x)

-- where there is a setting every size is at least 1
pub valid_pos : (S s : List ℕ) → Valid S s → Pos S
valid_pos [] s h = tt
valid_pos (n ∷ S) [] h = absurd h
valid_pos (n ∷ S) (v ∷ s) h = (omega (arith, h.0), valid_pos S s h.1)

pub zeros_valid : (S : List ℕ) → Pos S → Valid S (zeros S)
zeros_valid [] h = tt
zeros_valid (n ∷ ns) h = (h.0, zeros_valid ns h.1)

pub zeros_are : (S : List ℕ) → zeros S ≡ replicate (length S) 0
zeros_are [] = refl
zeros_are (n ∷ ns) = ap (λ (t : List ℕ). 0 ∷ t) (zeros_are ns)

pub zeros_length : (S : List ℕ) → length (zeros S) ≡ length S
zeros_length [] = refl
zeros_length (n ∷ ns) = ap suc (zeros_length ns)

-- a feature list has sizes of at least 1
pub features_pos : (S : List ℕ) → FeatureList S → Pos S
features_pos S f = pos_of S (λ k h. omega (arith, f.least k h))

both : {A B : Type 0} → Dec A → Dec B → Dec (A × B)
both (yes a) (yes b) = yes (a, b)
both (yes a) (no b) = no (λ h. b h.1)
both (no a) d = no (λ h. a h.0)

-- it can be decided whether the values are a setting
pub valid_decided : (S s : List ℕ) → Dec (Valid S s)
valid_decided [] [] = yes tt
valid_decided [] (v ∷ s) = no (λ h. h)
valid_decided (n ∷ ns) [] = no (λ h. h)
valid_decided (n ∷ ns) (v ∷ s) = both (dec_lt v n) (valid_decided ns s)

-- it can be decided whether the sizes are a feature list
pub features_decided : (S : List ℕ) → Dec (FeatureList S)
features_decided S =
    go
    (both (dec_le 1 (length S)) (dec_le (length S) 16))
    (both
    (all_decided (λ k. dec_le 2 (get_or S k 0)) (length S))
    (all_decided (λ k. dec_le (get_or S k 0) 8) (length S)))
  where
    go : Dec ((1 ≤ length S) × (length S ≤ 16)) → Dec (((k : ℕ) → k < length S → 2 ≤ get_or S k 0) × ((k : ℕ) → k < length S → get_or S k 0 ≤ 8)) → Dec (FeatureList S)
    go (yes a) (yes b) = yes (record { some = a.0; few = a.1; least = b.0; most = b.1 })
    go (yes a) (no b) = no (λ f. b (f.least, f.most))
    go (no a) d = no (λ f. a (f.some, f.few))
