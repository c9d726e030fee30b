-- A test of each number below n is a test of all. Assumes nothing.
use Prim.Native.Nat.{ℕ, ◌<◌}
use mathlib.Core.Path.{◌≡◌, refl, sym, subst}
use mathlib.Core.Bool.{Bool, true, false}
use denote.Param.Members.{Mut}
use lib.ListN.{length, get_or}
use Rattle.std.proofs.Common.{arith, List}
use Rattle.std.specs.Prelude as rattle
use Rattle.std.specs.Bool.{MatchBool}
use Rattle.std.specs.Fn.{Called}
use Rattle.std.specs.List.{FoldsTo, AllWithin, HoldsAt, range_with_len}
use Rattle.std.specs.Iterator.{YieldsThen}
use Rattle.std.specs.Option.{MatchOption}
use Rattle.std.proofs.iter.Yields.{nat_range_steps}
use Rattle.std.proofs.lemmas.Iterator.{cases_from_all, YieldsList-from_range}
use Rattle.std.proofs.lemmas.List.FromFn.{length-range_with_len, get_or-range_with_len}
use Rattle.settings.specs.Tells.{Tells}

at_is : (n k : ℕ) → k < n → get_or (range_with_len 0 n) k 0 ≡ k
at_is n k h = omega (arith, get_or-range_with_len 0 n k 0 h)

turned : (n : ℕ) (r : Bool) (P : ℕ → Type 0) →
    MatchBool r (AllWithin P (range_with_len 0 n) 0 (length (range_with_len 0 n))) ((k : ℕ) × (k < length (range_with_len 0 n)) × HoldsAt (λ x. P x → ⊥) (range_with_len 0 n) k) →
    Tells r ((k : ℕ) → k < n → P k)
turned n true P m = λ k h. subst P (at_is n k h) (m k 0 (omega arith) (omega (arith, length-range_with_len 0 n)))
turned n false P m =
    λ all. let h : m.0 < n = omega (arith, m.1, length-range_with_len 0 n) in m.2 0 (subst P (sym (at_is n m.0 h)) (all m.0 h))

-- the closure's answer at x says whether P holds there
pub tells_all : {F : Type 0} {g : Mut F (ℕ × Unit {0}) Bool} (n : ℕ) (u : _) (f : F) (r : Bool) (P : ℕ → Type 0) →
    (xs : List ℕ) × (o : rattle.Option ℕ) × (j : F) × YieldsThen nat_range_steps (record { start = 0; end = n }) xs o u × FoldsTo (λ p x q. Called g p (x, tt) true q) f xs j × MatchOption o (r ≡ true) (λ x. (r ≡ false) × ((h : F) × Called g j (x, tt) false h)) →
    ((x : ℕ) (q : F) → Called g f (x, tt) true q → (q ≡ f) × P x) → ((x : ℕ) (q : F) → Called g f (x, tt) false q → P x → ⊥) → Tells r ((k : ℕ) → k < n → P k)
tells_all n u f r P ran holds fails = turned n r P (cases_from_all u f r P (λ x. P x → ⊥) ran (YieldsList-from_range 0 n n refl (omega arith)) holds fails)
