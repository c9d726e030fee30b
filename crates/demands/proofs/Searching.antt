-- What can be found: the least number with a property, the first setting at or after one; and each condition of a table of refusals can be decided. Assumes nothing.
use mathlib.Core.Path.{◌≡◌, subst}
use mathlib.Core.Logic.{◌⊎◌, inl, inr, ⊎_elim}
use mathlib.Core.List.{List, [], ◌∷◌}
use Prim.Native.Nat.{ℕ, zero, suc, ◌+◌, ◌≤◌, ◌<◌}
use native.Mathlib.Decide.{ℕ_discrete, dec_lt, dec_le}
use native.Mathlib.Omega.{arith}
use lib.IntN.{ℤ, pos}
use lib.ListN.{length, get_or}
use Rattle.theory.specs.Kind.{Kind}
use Rattle.theory.specs.Settings.{Valid}
use Rattle.theory.specs.Deciding.{all_decided}
use Rattle.theory.specs.Functions.{Fun, held}
use Rattle.theory.specs.Counted.{Given, Reaches}
use Rattle.theory.specs.First.{First, FirstFrom, NoneFrom}
use Rattle.theory.specs.Rules.{Rule}
use Rattle.theory.specs.Costs.{Cost}
use Rattle.theory.proofs.First.{first_smallest, first_same, first_greater, none_greater, first_end, first_from_end, none_end, given_end}
use Rattle.theory.proofs.Ranges.{features_decided, valid_decided}
use Rattle.settings.specs.Step.{values_of, Inside}
use Rattle.settings.specs.declared.steps.Setting.{Setting}
use Rattle.promises.specs.Words.{bound}
use Rattle.promises.specs.Range.{LeavesRange, cost_most}
use Rattle.promises.specs.State.{State, Outnumber, Places}
use Rattle.promises.specs.TableDeeds.{Openable}
use Rattle.promises.specs.CostDeeds.{Priced}
use Rattle.promises.specs.SheetDeeds.{row_of, SettingRows}
use Rattle.table_calls.proofs.Drawn.{outnumber, outnumbered}
use Rattle.theory_costs.proofs.Integers.{fit_decided}
use Rattle.demands.proofs.Firm.{not_decided, some_decided}

-- ---- decisions
module _ {P Q : Type 0} where
  -- what is so exactly if P is
  pub via : (P → Q) → (Q → P) → Dec P → Dec Q
  via f b (yes p) = yes (f p)
  via f b (no n) = no (λ q. n (b q))

  pub or_decided : Dec P → Dec Q → Dec (P ⊎ Q)
  or_decided (yes p) d = yes (inl p)
  or_decided (no n) (yes q) = yes (inr q)
  or_decided (no n) (no m) = no (⊎_elim n m)

  pub and_decided : Dec P → Dec Q → Dec (P × Q)
  and_decided (yes p) (yes q) = yes (p, q)
  and_decided (yes p) (no m) = no (λ h. m h.1)
  and_decided (no n) d = no (λ h. n h.0)

-- the least number from m on and below n
least_decided : {P : ℕ → Type 0} → ((v : ℕ) → Dec (P v)) → (m n : ℕ) → ((w : ℕ) × (m ≤ w) × (w < n) × P w × ((y : ℕ) → m ≤ y → y < w → P y → ⊥)) ⊎ ((y : ℕ) → m ≤ y → y < n → P y → ⊥)
least_decided d m zero = inr (λ y h l p. omega (arith, l))
least_decided {P} d m (suc n) = go (least_decided d m n)
  where
    last : ((y : ℕ) → m ≤ y → y < n → P y → ⊥) → Dec (m ≤ n) → Dec (P n) → ((w : ℕ) × (m ≤ w) × (w < suc n) × P w × ((y : ℕ) → m ≤ y → y < w → P y → ⊥)) ⊎ ((y : ℕ) → m ≤ y → y < suc n → P y → ⊥)
    last f (yes h) (yes p) = inl (n, h, omega arith, p, f)
    last f (yes h) (no k) = inr (λ y i l p. ⊎_elim (λ e. k (subst P e p)) (λ e. f y i (omega (arith, l, e)) p) (same (ℕ_discrete y n)))
      where
        same : {A : Type 0} → Dec A → A ⊎ (A → ⊥)
        same (yes a) = inl a
        same (no b) = inr b
    last f (no h) e = inr (λ y i l p. omega (arith, h, i, l))

    go : ((w : ℕ) × (m ≤ w) × (w < n) × P w × ((y : ℕ) → m ≤ y → y < w → P y → ⊥)) ⊎ ((y : ℕ) → m ≤ y → y < n → P y → ⊥) →
        ((w : ℕ) × (m ≤ w) × (w < suc n) × P w × ((y : ℕ) → m ≤ y → y < w → P y → ⊥)) ⊎ ((y : ℕ) → m ≤ y → y < suc n → P y → ⊥)
    go (inl h) = inl (h.0, h.1, omega (arith, h.2), h.3, h.4)
    go (inr f) = last f (dec_le m n) (d n)

-- ---- the first setting
given_decided : (S : List ℕ) (g : Rule) (x : ℕ) → Dec (Given S g x)
given_decided S g x =
    via (λ h. record { setting = h.0; valid = h.1; holds = h.2 }) (λ r. (r.setting, r.valid, r.holds)) (some_decided {P = λ s. (g s).end ≡ x} S (λ s. ℕ_discrete (g s).end x))

first_decided : (S : List ℕ) (g : Rule) (x : ℕ) → Given S g x → (t : List ℕ) × First S g x t
first_decided [] g x r = ([], first_end g x (given_end g x r))
first_decided (n ∷ ns) g x r = go (least_decided (λ v. given_decided ns (held v g) x) 0 n) (λ v. first_decided ns (held v g) x)
  where
    none : ((y : ℕ) → 0 ≤ y → y < n → Given ns (held y g) x → ⊥) → (s : List ℕ) → Valid (n ∷ ns) s → (g s).end ≡ x → ⊥
    none f [] v e = v
    none f (y ∷ s) v e = f y (omega arith) v.0 (record { setting = s; valid = v.1; holds = e })

    go : ((w : ℕ) × (0 ≤ w) × (w < n) × Given ns (held w g) x × ((y : ℕ) → 0 ≤ y → y < w → Given ns (held y g) x → ⊥)) ⊎ ((y : ℕ) → 0 ≤ y → y < n → Given ns (held y g) x → ⊥) →
        ((v : ℕ) → Given ns (held v g) x → (t : List ℕ) × First ns (held v g) x t) → (t : List ℕ) × First (n ∷ ns) g x t
    go (inl h) i = let f = i h.0 h.3 in (h.0 ∷ f.0, first_smallest n ns g x h.0 f.0 h.2 (λ y l. h.4 y (omega arith) l) f.1)
    go (inr f) i = absurd (none f r.setting r.valid r.holds)

-- at or after s, or none
pub first_from_decided : (S : List ℕ) (g : Rule) (x : ℕ) (s : List ℕ) → Valid S s → ((t : List ℕ) × FirstFrom S g x s t) ⊎ NoneFrom S g x s
first_from_decided [] g x [] v = go (ℕ_discrete (g []).end x)
  where
    go : Dec ((g []).end ≡ x) → ((t : List ℕ) × FirstFrom [] g x [] t) ⊎ NoneFrom [] g x []
    go (yes e) = inl ([], first_from_end g x e)
    go (no e) = inr (none_end g x e)
first_from_decided [] g x (y ∷ s) v = absurd v
first_from_decided (n ∷ ns) g x [] v = absurd v
first_from_decided (n ∷ ns) g x (y ∷ s) v = go (first_from_decided ns (held y g) x s v.1)
  where
    go : ((t : List ℕ) × FirstFrom ns (held y g) x s t) ⊎ NoneFrom ns (held y g) x s → ((t : List ℕ) × FirstFrom (n ∷ ns) g x (y ∷ s) t) ⊎ NoneFrom (n ∷ ns) g x (y ∷ s)
    go (inl f) = inl (y ∷ f.0, first_same n ns g x y s f.0 v.0 f.1)
    go (inr f) = ⊎_elim
        (λ h. let q = first_decided ns (held h.0 g) x h.3 in
        inl (h.0 ∷ q.0, first_greater n ns g x y s f h.0 q.0 v.1 (omega (arith, h.1)) h.2 h.4 q.1))
        (λ h. inr (none_greater n ns g x y s f h))
        (least_decided (λ w. given_decided ns (held w g) x) (y + 1) n)

-- ---- the conditions of the calls
pub places_decided : (n : ℕ) (l : List ℕ) → Dec (Places n l)
places_decided n l = via (λ a. record { each = a }) (λ r. r.each) (all_decided {P = λ j. get_or l j 0 < n} (λ j. dec_lt (get_or l j 0) n) (length l))

pub outnumber_decided : {K : Kind} (z : State K) (g : Fun K) → Dec (Outnumber z g)
outnumber_decided z g = via outnumber outnumbered (dec_lt _ _)

pub priced_decided : (l : List ℤ) → Dec (Priced l)
priced_decided l = via (λ a. record { each = a }) (λ r. r.each) (all_decided (λ v. fit_decided cost_most (get_or l v (pos 0))) (length l))

pub reaches_decided : (S : List ℕ) (g : Rule) (m : ℕ) → Dec (Reaches S g m)
reaches_decided S g m = via (λ h. record { setting = h.0; valid = h.1; holds = h.2 }) (λ r. (r.setting, r.valid, r.holds)) (some_decided {P = λ s. m ≤ (g s).end} S (λ s. dec_le m (g s).end))

pub leaves_decided : (S : List ℕ) (f : Cost) → Dec (LeavesRange S f)
leaves_decided S f = via (λ h. record { setting = h.0; valid = h.1; out = h.2 }) (λ r. (r.setting, r.valid, r.out)) (some_decided S (λ s. not_decided (fit_decided cost_most (f s).off)))

pub openable_decided : (S : List ℕ) (cap n : ℕ) → Dec (Openable S cap n)
openable_decided S cap n =
    via (λ h. record { list = h.0; some = h.1.0; most = h.1.1.0; room = h.1.1.1 }) (λ r. (r.list, (r.some, (r.most, r.room))))
    (and_decided (features_decided S) (and_decided (dec_le 1 cap) (and_decided (dec_le cap 4096) (dec_le (bound cap) n))))

pub inside_decided : (S : List ℕ) (s : Setting) → Dec (Inside S s)
inside_decided S s =
    via (λ h. record { features = h.0; counted = h.1.0; valid = h.1.1 }) (λ r. (r.features, (r.counted, r.valid)))
    (and_decided (features_decided S) (and_decided (ℕ_discrete s.count (length S)) (valid_decided S (values_of s))))

pub rows_decided : (S : List ℕ) (m : ℕ) (t : List ℕ) → Dec (SettingRows S m t)
rows_decided S m t = via (λ h. record { long = h.0; each = h.1 }) (λ r. (r.long, r.each)) (and_decided (ℕ_discrete _ _) (all_decided (λ i. valid_decided S (row_of (length S) t i)) m))
