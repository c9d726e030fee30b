-- The size words tested at once. Assumes nothing.
use Rattle.std.proofs.Common.{◌≡◌, ℕ, ◌+◌, ◌≤◌, ◌<◌, List, Bool, true, false, length, get_or, take, drop, refl, ◌∙◌, arith}
use Rattle.std.specs.Prelude.{◌↔◌, IsTrue, EachIndex, slice_index}
use lib.ListN.{length-drop}
use lib.Seq.{length-take-le, get_or-take, get_or-drop}
use Rattle.settings.specs.Tells.{Tells}
use Rattle.promises.specs.Words.{head, features}
use Rattle.promises.specs.Sound.{Sizes}

part_at : (w : List ℕ) (n from v : ℕ) → v < n → get_or (take n (drop from w)) v 0 ≡ get_or w (from + v) 0
part_at w n from v h = get_or-take n (drop from w) v 0 h ∙ get_or-drop from w v 0

length_part : (w : List ℕ) (n from : ℕ) → from + n ≤ length w → length (take n (drop from w)) ≡ n
length_part w n from h = length-take-le n (drop from w) (omega (arith, length-drop from w))

-- a test that holds exactly if P does
pub told : {P : Type 0} (r : Bool) → (r ≡ true → P) → (P → r ≡ true) → Tells r P
told true f g = f refl
told false f g = λ p. let z : false ≡ true = g p in cc

-- the sizes
pub sizes_tell : (w : List ℕ) (n : ℕ) (r : Bool) → n ≡ features w → 3 + n ≤ length w
    → (IsTrue r ↔ EachIndex (take n (drop 3 w)) (λ k. (2 ≤ slice_index (take n (drop 3 w)) k) × (slice_index (take n (drop 3 w)) k ≤ 8))) → Tells r (Sizes w)
unfolding head
sizes_tell w n r e room h =
    told r
    (λ q. record { large = λ k l. let x = h.0 q k (omega (arith, length_part w n 3 room)) in omega (arith, x, part_at w n 3 k (omega arith)) })
    (λ z. h.1 (λ k l. let u : k < features w = omega (arith, e, length_part w n 3 room) in let y = z.large k u in omega (arith, y, part_at w n 3 k (omega (arith, e)))))
