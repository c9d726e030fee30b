-- What less remembers stays right while the rule table grows; a hit is what `build` gives, and a result may be remembered. Assumes nothing.
use mathlib.Core.Path.{◌≡◌, subst}
use mathlib.Core.List.{List}
use Prim.Native.Nat.{ℕ, ◌+◌}
use native.Mathlib.Omega.{arith}
use lib.ListN.{length}
use Rattle.table_words.specs.Words.{listed}
use Rattle.table_memory.specs.Memory.{Remembers, Recalls, Stored}
use Rattle.table_memory.proofs.Remembering as M
use Rattle.rule_lending.specs.Building.{Ready, Makes, Result}
use Rattle.std.specs.Prelude.{Option, Some}
use Rattle.rule_lending.proofs.Building.{result_again, makes_again}
use Rattle.both_less.specs.Less.{less_from}
use Rattle.both_less.specs.Memory.{Recalled}

-- after `make`
pub remembers_made : (w v t : List ℕ) (k : ℕ) (l : List ℕ) (a : Option ℕ) (z : ℕ) (s : List ℕ) → Ready v → Makes v t k l a → a ≡ Some z → Remembers 4 (Recalled w v) s → Remembers 4 (Recalled w t) s
remembers_made w v t k l a z s ok m q h = M.remembers_map s (λ key b e c. record { there = λ j i. makes_again ok a m q (c.there j i) }) h

module _ (w v : List ℕ) (k : ℕ) (key : List ℕ) (f : listed key 0 ≡ k + 1) (l : length key ≡ 4) where
  -- a hit is the result
  pub hit : (s : List ℕ) (z e : ℕ) (r : Option (ℕ × ℕ)) → Remembers 4 (Recalled w v) s → Recalls s key r → r ≡ Some (z, e) → Result v v k (less_from w k (listed key 1) (listed key 2) (listed key 3)) (Some z)
  hit s z e r m c q =
      let a : Recalled w v key z e = M.hit key l s z e r m c q (omega (arith, f)) in
      a.there k f

  -- one more result is remembered
  pub remembers_result : (t s s' : List ℕ) (z : ℕ) → Ready v → Result v t k (less_from w k (listed key 1) (listed key 2) (listed key 3)) (Some z) → Remembers 4 (Recalled w t) s
      → Stored s s' key z 0 → Remembers 4 (Recalled w t) s'
  remembers_result t s s' z ok r m st =
      M.remembers_stored key l s s' z 0 m st
      (record { there = λ j i. subst (λ (n : ℕ). Result t t n (less_from w n (listed key 1) (listed key 2) (listed key 3)) (Some z)) (omega (arith, f, i)) (result_again ok r) })
