-- Which conditions hold where they cannot fail: negations, what can be decided, one that can be decided or a stable one, some setting of a list. Assumes nothing.
use mathlib.Core.Path.{◌≡◌, subst}
use mathlib.Core.Logic.{◌⊎◌, inl, inr, ⊎_elim}
use mathlib.Core.List.{List, [], ◌∷◌}
use Prim.Native.Nat.{ℕ, zero, suc, ◌≤◌, ◌<◌}
use native.Mathlib.Nat.{not-suc-le-zero}
use native.Mathlib.Decide.{ℕ_discrete, dec_lt, dec_le}
use native.Mathlib.Omega.{arith}
use Rattle.theory.specs.Kind.{Kind}
use Rattle.theory.specs.Settings.{Valid}
use Rattle.theory.specs.Functions.{Fun}
use Rattle.theory.specs.Counted.{Reaches}
use Rattle.theory.specs.First.{NoneFrom}
use Rattle.theory.specs.Rules.{Rule}
use Rattle.theory.specs.Costs.{Cost}
use Rattle.theory_costs.proofs.Integers.{fit_decided}
use Rattle.settings.specs.Refusals.{Cases, taken, ◌when◌else◌}
use Rattle.promises.specs.Integers.{Fit}
use Rattle.promises.specs.Range.{LeavesRange, cost_most}
use Rattle.promises.specs.Lowest.{NoneMarked}
use Rattle.promises.specs.Sheet.{NewerSheet}
use Rattle.promises.specs.State.{State, Outnumber}
use Rattle.table_calls.proofs.Drawn.{outnumber, outnumbered}

-- P holds where it cannot fail: so it is of every negation and of everything that can be decided
abbrev pub Stable : Type 0 → Type 0
Stable P = ((P → ⊥) → ⊥) → P

-- every condition of the table is stable
abbrev pub Firm : Cases → Type 0
Firm taken = Unit {0}
Firm (x when P else rest) = Stable P × Firm rest

module _ {P : Type 0} where
  -- a negation
  pub neg : Stable (P → ⊥)
  neg n p = n (λ f. f p)

  -- what can be decided
  pub sure : Dec P → Stable P
  sure (yes p) n = p
  sure (no m) n = absurd (n m)

  -- the one that can be decided, or the other
  pub or : {Q : Type 0} → Dec P → Stable Q → Stable (P ⊎ Q)
  or (yes p) s n = inl p
  or (no m) s n = inr (s (λ q. n (⊎_elim m q)))

  -- not both
  pub not_decided : Dec P → Dec (P → ⊥)
  not_decided (yes p) = no (λ n. n p)
  not_decided (no n) = yes n

-- numbers
pub le : {a b : ℕ} → Stable (a ≤ b)
le {a} {b} = sure (dec_le a b)

pub equal : {a b : ℕ} → Stable (a ≡ b)
equal {a} {b} = sure (ℕ_discrete a b)

-- ---- some setting
-- some number below n
any_decided : {P : ℕ → Type 0} → ((v : ℕ) → Dec (P v)) → (n : ℕ) → Dec ((v : ℕ) × (v < n) × P v)
any_decided d zero = no (λ h. not-suc-le-zero h.1)
any_decided {P} d (suc n) = go (d n) (any_decided d n)
  where
    go : Dec (P n) → Dec ((v : ℕ) × (v < n) × P v) → Dec ((v : ℕ) × (v < suc n) × P v)
    go (yes p) e = yes (n, omega arith, p)
    go (no m) (yes q) = yes (q.0, omega (arith, q.1), q.2)
    go (no m) (no k) = no (λ h. old h.0 h.1 h.2 (ℕ_discrete h.0 n))
      where
        old : (v : ℕ) → v < suc n → P v → Dec (v ≡ n) → ⊥
        old v l p (yes e) = m (subst P e p)
        old v l p (no e) = k (v, omega (arith, l, e), p)

-- some setting of a list
pub some_decided : {P : List ℕ → Type 0} (S : List ℕ) → ((s : List ℕ) → Dec (P s)) → Dec ((s : List ℕ) × Valid S s × P s)
some_decided {P} [] d = go (d [])
  where
    none : (s : List ℕ) → Valid [] s → P s → (P [] → ⊥) → ⊥
    none [] v p n = n p
    none (x ∷ s) v p n = v

    go : Dec (P []) → Dec ((s : List ℕ) × Valid [] s × P s)
    go (yes p) = yes ([], tt, p)
    go (no n) = no (λ h. none h.0 h.1 h.2 n)
some_decided {P} (n ∷ ns) d = go (any_decided (λ v. some_decided {P = λ s. P (v ∷ s)} ns (λ s. d (v ∷ s))) n)
  where
    part : (s : List ℕ) → Valid (n ∷ ns) s → P s → (v : ℕ) × (v < n) × ((s : List ℕ) × Valid ns s × P (v ∷ s))
    part [] v p = absurd v
    part (x ∷ s) v p = (x, v.0, (s, v.1, p))

    go : Dec ((v : ℕ) × (v < n) × ((s : List ℕ) × Valid ns s × P (v ∷ s))) → Dec ((s : List ℕ) × Valid (n ∷ ns) s × P s)
    go (yes h) = yes (h.0 ∷ h.2.0, (h.1, h.2.1), h.2.2)
    go (no m) = no (λ h. m (part h.0 h.1 h.2))

-- BAD SELECTOR: some setting has a number of m or more
pub reaches : {S : List ℕ} {g : Rule} {m : ℕ} → Stable (Reaches S g m)
reaches {S} {g} {m} n =
    let h = sure (some_decided {P = λ s. m ≤ (g s).end} S (λ s. dec_le m (g s).end)) (λ k. n (λ r. k (r.setting, r.valid, r.holds))) in
    record { setting = h.0; valid = h.1; holds = h.2 }

-- RANGE: the cost leaves its range at some setting
pub leaves : {S : List ℕ} {f : Cost} → Stable (LeavesRange S f)
leaves {S} {f} n =
    let h = sure (some_decided {P = λ s. Fit cost_most (f s).off → ⊥} S (λ s. not_decided (fit_decided cost_most (f s).off))) (λ k. n (λ r. k (r.setting, r.valid, r.out))) in
    record { setting = h.0; valid = h.1; out = h.2 }

-- NO ROOM: the rests are more than the capacity
pub rests : {K : Kind} {z : State K} {g : Fun K} → Stable (Outnumber z g)
rests n = outnumber (sure (dec_lt _ _) (λ m. n (λ o. m (outnumbered o))))

-- NONE: no setting from here on, and none at all
pub none_from : {S : List ℕ} {g : Rule} {x : ℕ} {s : List ℕ} → Stable (NoneFrom S g x s)
none_from n = record { none = λ u v e f. n (λ r. r.none u v e f) }

pub none_marked : {S : List ℕ} {g : Rule} → Stable (NoneMarked S g)
none_marked n = record { none = λ u v. equal (λ m. n (λ r. m (r.none u v))) }

-- ---- sheets
-- NEWER
pub newer : {s : List ℕ} → Stable (NewerSheet s)
newer n = record { three = le (λ m. n (λ x. m x.three)); zero = equal (λ m. n (λ x. m x.zero)); one = equal (λ m. n (λ x. m x.one)); more = le (λ m. n (λ x. m x.more)) }
