-- THE GROUPING LAW ASKS THAT NO CALL IS REFUSED: of 1,000,000,000 + 1 − 1 one grouping is refused with RANGE and the other is taken. Assumes nothing.
use mathlib.Core.Path.{◌≡◌, refl, sym, ap₂, subst, ◌∙◌}
use mathlib.Core.List.{List, [], ◌∷◌}
use Prim.Native.Nat.{ℕ, zero, suc, ◌<◌}
use native.Mathlib.Omega.{arith}
use lib.IntN.{ℤ, pos, negsuc, ◌+ℤ◌}
use lib.ListN.{get_or}
use Rattle.theory.specs.Settings.{zeros}
use Rattle.theory.specs.Functions.{Agree}
use Rattle.theory.specs.Costs.{Cost, amount}
use Rattle.theory.proofs.Ranges.{zeros_valid}
use Rattle.settings.specs.Refusals.{Ends}
use Rattle.settings.specs.declared.refusals.Refusal.TheVariants.{Range}
use Rattle.settings.specs.Refusals.{Outcome}
use Rattle.settings.specs.Refusals.{Taken, Refused}
use Rattle.promises.specs.Words.{sizes}
use Rattle.promises.specs.Integers.{Fit}
use Rattle.promises.specs.CostOperations.{constant, sum}
use Rattle.promises.specs.Range.{cost_most}
use Rattle.promises.specs.CostWords.{cost_of}
use Rattle.promises.specs.CostSound.{CostSound}
use Rattle.promises.specs.State.{on, Places}
use Rattle.promises.specs.Deed.{Deed, Meets}
use Rattle.promises.specs.Table.{puts, state_of, table}
use Rattle.promises.specs.TableDeeds as D
use Rattle.promises.specs.CostDeeds.{cost_looked, costed, range_cases, add}
use Rattle.theory_costs.proofs.Range.{within_stays, constant_within}
use Rattle.theory_costs.proofs.Relative.{offs}
use Rattle.cost_sound.proofs.Pictures.{sound_proper}
use Rattle.cost_calls.proofs.Sounding.{sound_pos}
use Rattle.table_calls.proofs.Drawn.{placed}
use Rattle.cost_calls.proofs.Edge.{drawn}
use Rattle.demands.proofs.Matching.{matches_refl, outnumber_like}
use Rattle.demands.proofs.Room.{constant_fits}
use Rattle.demands.proofs.CostLaws.{leaves_like}
use Rattle.call_laws.proofs.Standing.{still_agrees, written_sound, written_agrees, call_stands}

-- place p of the sound table w gives every setting the amount x
record Fixed (w : List ℕ) (p : ℕ) (x : ℤ) : Type 0 where
  sound : CostSound w
  below : p < 16
  gives : Agree (sizes w) (cost_of w p) (constant x)

fixed_on : {w : List ℕ} {p : ℕ} {x : ℤ} → Fixed w p x → Agree (sizes w) (on (state_of costed w) p) (constant x)
fixed_on {w} {p} i s v = sym (placed cost_looked drawn w p i.below s v) ∙ i.gives s v

-- ---- ADD OF TWO CONSTANTS in any sound table: RANGE where their sum is out of range, else taken
module _ {w w' : List ℕ} {p a b : ℕ} {x y : ℤ} {o : Outcome} (i : Fixed w a x) (j : Fixed w b y) (h : p < 16) (c : Meets (add p a b) w w' o) where
  abbrev summed : Cost
  summed = sum (on (state_of costed w) a) (on (state_of costed w) b)

  sum_gives : Agree (sizes w) summed (constant (x +ℤ y))
  sum_gives s v = ap₂ (λ (k l : ℤ). amount (k +ℤ l)) (offs (fixed_on i s v)) (offs (fixed_on j s v))

  places : Places 16 (p ∷ a ∷ b ∷ [])
  places = record { each = go }
    where
      go : (k : ℕ) → k < 3 → get_or (p ∷ a ∷ b ∷ []) k 0 < 16
      go zero l = h
      go (suc zero) l = i.below
      go (suc (suc zero)) l = j.below
      go (suc (suc (suc k))) l = omega arith

  put : Ends (range_cases summed (state_of costed w)) o
  put = (c.ends.1 (λ n. n i.sound)).1 (λ n. n places)

  sum_refused : (Fit cost_most (x +ℤ y) → ⊥) → o ≡ Refused Range
  sum_refused n =
      let v = zeros_valid (sizes w) (sound_pos i.sound) in
      put.0 (record { setting = zeros (sizes w); valid = v; out = λ f. n (subst (Fit cost_most) (offs (sum_gives (zeros (sizes w)) v)) f) })

  sum_taken : Fit cost_most (x +ℤ y) → o ≡ Taken
  sum_taken f =
      (put.1 (λ l. within_stays (constant_within (x +ℤ y) f) (leaves_like sum_gives l))).1
      (λ e. constant_fits cost_looked drawn w (amount (x +ℤ y)) i.sound (outnumber_like (matches_refl (sound_proper i.sound).list) sum_gives e))

  sum_fixed : o ≡ Taken → Fixed w' p (x +ℤ y)
  sum_fixed e = record { sound = written_sound cost_looked drawn refl c e; below = h; gives = written_agrees cost_looked drawn refl c e h sum_gives }

-- ---- constants
module _ {w w' : List ℕ} {p : ℕ} {x : ℤ} {o : Outcome} (c : Meets (D.constant costed p (amount x)) w w' o) where
  constant_taken : CostSound w → p < 16 → Fit cost_most x → o ≡ Taken
  constant_taken s h f = ((c.ends.1 (λ n. n s)).1 (λ n. n (record { each = go }))).1 (λ n. n f)
    where
      go : (k : ℕ) → k < 1 → get_or (p ∷ []) k 0 < 16
      go zero l = h
      go (suc k) l = omega arith

  constant_fixed : p < 16 → o ≡ Taken → Fixed w' p x
  constant_fixed h e = record { sound = written_sound cost_looked drawn refl c e; below = h; gives = written_agrees cost_looked drawn refl c e h (λ s v. refl) }

-- any call that writes another place, taken or refused, leaves it so
fixed_stays : {d : Deed (table costed)} {w w' : List ℕ} {p q : ℕ} {g : Cost} {x : ℤ} {r : d.Result} → Fixed w q x → d.writes (state_of costed w) ≡ puts p g → Meets d w w' r
    → (q ≡ p → ⊥) → Fixed w' q x
fixed_stays {d} i e c n =
    let k = call_stands cost_looked drawn {d = d} e c i.sound i.below n in
    record { sound = k.sound; below = i.below; gives = still_agrees cost_looked drawn i.gives k }

-- THE EXAMPLE: in any sound table 1,000,000,000, 1 and −1 go into places 0, 1 and 2. Of (A + B) + C the first sum is refused with RANGE; of A + (B + C) both sums are taken
pub grouping_refused : {w₀ w₁ w₂ w₃ w₄ w₅ w₆ : List ℕ} {o₁ o₂ o₃ o₄ o₅ o₆ : Outcome} → CostSound w₀ →
    Meets (D.constant costed 0 (amount (pos 1000000000))) w₀ w₁ o₁ → Meets (D.constant costed 1 (amount (pos 1))) w₁ w₂ o₂ → Meets (D.constant costed 2 (amount (negsuc 0))) w₂ w₃ o₃ →
    Meets (add 3 0 1) w₃ w₄ o₄ → Meets (add 3 1 2) w₄ w₅ o₅ → Meets (add 4 0 3) w₅ w₆ o₆ →
    (o₁ ≡ Taken) × (o₂ ≡ Taken) × (o₃ ≡ Taken) × (o₄ ≡ Refused Range) × (o₅ ≡ Taken) × (o₆ ≡ Taken)
grouping_refused s c₁ c₂ c₃ c₄ c₅ c₆ =
    let t₁ = constant_taken c₁ s (omega arith) (record { top = omega arith; bottom = omega arith }) in
    let A₁ = constant_fixed c₁ (omega arith) t₁ in
    let t₂ = constant_taken c₂ A₁.sound (omega arith) (record { top = omega arith; bottom = omega arith }) in
    let A₂ = fixed_stays A₁ refl c₂ (λ e. omega (arith, e)) in
    let B₂ = constant_fixed c₂ (omega arith) t₂ in
    let t₃ = constant_taken c₃ A₂.sound (omega arith) (record { top = omega arith; bottom = omega arith }) in
    let A₃ = fixed_stays A₂ refl c₃ (λ e. omega (arith, e)) in
    let B₃ = fixed_stays B₂ refl c₃ (λ e. omega (arith, e)) in
    let C₃ = constant_fixed c₃ (omega arith) t₃ in
    let t₄ = sum_refused A₃ B₃ (omega arith) c₄ (λ f. omega (arith, f.top)) in
    let A₄ = fixed_stays A₃ refl c₄ (λ e. omega (arith, e)) in
    let B₄ = fixed_stays B₃ refl c₄ (λ e. omega (arith, e)) in
    let C₄ = fixed_stays C₃ refl c₄ (λ e. omega (arith, e)) in
    let t₅ = sum_taken B₄ C₄ (omega arith) c₅ (record { top = omega arith; bottom = omega arith }) in
    let A₅ = fixed_stays A₄ refl c₅ (λ e. omega (arith, e)) in
    let S₅ = sum_fixed B₄ C₄ (omega arith) c₅ t₅ in
    let t₆ = sum_taken A₅ S₅ (omega arith) c₆ (record { top = omega arith; bottom = omega arith }) in
    (t₁, t₂, t₃, t₄, t₅, t₆)
