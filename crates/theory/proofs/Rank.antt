-- The rank of a setting: how many settings come before it, as a number in mixed sizes. Assumes nothing.
use mathlib.Core.Path.{◌≡◌, refl}
use mathlib.Core.Logic.{⊎_elim}
use mathlib.Core.List.{List, [], ◌∷◌}
use Prim.Native.Nat.{ℕ, zero, suc, ◌+◌, ◌*◌, ◌<◌}
use native.Mathlib.Nat.{suc-mul, mul-le-mul_right, zero-mul}
use native.Mathlib.Omega.{arith}
use lib.ListN.{length, replicate}
use Rattle.theory.specs.Settings.{Valid, zeros, product, Before, sooner, later}
use Rattle.theory.proofs.Ranges.{valid_length, zeros_are}
use Rattle.theory.proofs.Order.{before_total}

abbrev pub rank : List ℕ → List ℕ → ℕ
rank [] s = 0
rank (n ∷ ns) [] = 0
rank (n ∷ ns) (v ∷ s) = v * product ns + rank ns s

-- a smaller first digit decides, whatever follows it
pub digit : (x y p r q : ℕ) → x < y → r < p → x * p + r < y * p + q
digit x y p r q h l = omega (arith, suc-mul x p, mul-le-mul_right p h)

-- every rank is below the number of settings
pub rank_below : (S s : List ℕ) → Valid S s → rank S s < product S
rank_below [] [] h = omega arith
rank_below [] (v ∷ s) h = absurd h
rank_below (n ∷ ns) [] h = absurd h
rank_below (n ∷ ns) (v ∷ s) h = omega (arith, digit v n (product ns) (rank ns s) 0 h.0 (rank_below ns s h.1))

-- an earlier setting has a lower rank
pub rank_order : (S : List ℕ) {s t : List ℕ} → Before s t → Valid S s → Valid S t → rank S s < rank S t
rank_order [] (sooner h e) a b = absurd a
rank_order [] (later o) a b = absurd a
rank_order (n ∷ ns) (sooner {x = x} {y = y} {xs = xs} {ys = ys} h e) a b = digit x y (product ns) (rank ns xs) (rank ns ys) h (rank_below ns xs a.1)
rank_order (n ∷ ns) (later {x = x} {xs = xs} {ys = ys} o) a b = omega (arith, rank_order ns o a.1 b.1)

-- two settings of one rank are the same
pub rank_one : (S s t : List ℕ) → Valid S s → Valid S t → rank S s ≡ rank S t → s ≡ t
rank_one S s t a b e =
    ⊎_elim
    (λ q. q)
    (λ o. absurd (⊎_elim (λ p. let h : rank S s < rank S t = rank_order S p a b in omega arith) (λ p. let h : rank S t < rank S s = rank_order S p b a in omega arith) o))
    (before_total s t (omega (arith, valid_length S s a, valid_length S t b)))

-- all zeros, however many, have rank 0
pub rank_none : (S : List ℕ) (m : ℕ) → rank S (replicate m 0) ≡ 0
rank_none [] m = refl
rank_none (n ∷ ns) zero = refl
rank_none (n ∷ ns) (suc m) = omega (arith, zero-mul (product ns), rank_none ns m)

pub rank_zeros : (S : List ℕ) → rank S (zeros S) ≡ 0
rank_zeros S = rw zeros_are (rank_none S (length S))
