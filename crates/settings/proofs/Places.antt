-- The 16 places that hold a setting: one place set, the places from one on, the setting that they hold. Assumes nothing.
use mathlib.Core.Path.{◌≡◌, refl, sym, ap, ◌∙◌}
use mathlib.Core.List.{List, ◌∷◌, ◌++◌}
use Prim.Native.Nat.{ℕ, ◌+◌, ◌-◌, ◌≤◌, ◌<◌}
use native.Mathlib.Numerals.{add-one}
use native.Mathlib.Omega.{arith}
use lib.ListN.{length, get_or, take, drop, set, replicate, take-append-drop, length-replicate, replicate-append-replicate}
use lib.Seq.{slice, slice-cons, drop_at, drop-set-lt, get_or-set_same, get_or-set_other, length-take-le, take_all}
use Rattle.settings.specs.Places.{Keeps}
use Rattle.settings.specs.Step.{setting_of}

pub keeps_all : (n k : ℕ) (v : List ℕ) → length v ≡ 16 → Keeps n k v v
keeps_all n k v l = record { sized = l; front = λ j h. refl; back = refl }

-- what keeps the places before k + 1 keeps those before k
pub keeps_less : {n k : ℕ} {v r : List ℕ} → Keeps n (k + 1) v r → Keeps n k v r
keeps_less q = record { sized = q.sized; front = λ j h. q.front j (omega arith); back = q.back }

-- place k was set
pub keeps_set : {n k : ℕ} {v r : List ℕ} (y : ℕ) → k < n → Keeps n (k + 1) (set v k y) r → Keeps n k v r
keeps_set {n} {k} {v} {r} y h q =
    record {
      sized = q.sized;
      front = λ j l. q.front j (omega arith) ∙ get_or-set_other v k j y 0 (omega arith);
      back = q.back ∙ drop-set-lt n v k y h;
    }

-- the places from k on begin with place k
pub places : (k n : ℕ) (r : List ℕ) → k < n → n ≤ 16 → length r ≡ 16 → slice k n r ≡ get_or r k 0 ∷ slice (k + 1) n r
places k n r h m l = rw add-one (slice-cons k n r 0 h (omega arith))

-- what was set at place k is there
pub set_place : {n k : ℕ} {r : List ℕ} (v : List ℕ) (y : ℕ) → k < n → n ≤ 16 → length v ≡ 16 → Keeps n (k + 1) (set v k y) r → slice k n r ≡ y ∷ slice (k + 1) n r
set_place {n} {k} {r} v y h m l q =
    places k n r h m q.sized ∙ ap (λ (z : ℕ). z ∷ slice (k + 1) n r) (q.front k (omega arith) ∙ get_or-set_same v k y 0 (omega arith))

-- places that are 0 past the first n hold those n as a setting
pub held_first : (m n : ℕ) (r : List ℕ) → m ≡ n → n ≤ 16 → length r ≡ 16 → drop n r ≡ replicate (16 - n) 0 → record { count = m; values = r } ≡ setting_of (take n r)
held_first m n r e h l z = λ j. record { count = counts j; values = holds j }
  where
    sized : length (take n r) ≡ n
    sized = length-take-le n r (omega arith)

    counts : m ≡ length (take n r)
    counts = e ∙ sym sized

    holds : r ≡ take 16 (take n r) ++ replicate (16 - length (take n r)) 0
    holds = rw (take_all 16 (take n r) (omega (arith, sized)), sized, ← z) (sym (take-append-drop n r))

-- past the first n of 16 zeros
pub zeros_past : (n : ℕ) → n ≤ 16 → drop n (replicate {A = ℕ} 16 0) ≡ replicate (16 - n) 0
zeros_past n h =
    let q : n + (16 - n) ≡ 16 = omega arith in
    ap (λ (m : ℕ). drop n (replicate {A = ℕ} m 0)) (sym q)
    ∙ ap (drop n) (sym (replicate-append-replicate n (16 - n) 0))
    ∙ drop_at (replicate n 0) (replicate (16 - n) 0) n (length-replicate {A = ℕ} n 0)
