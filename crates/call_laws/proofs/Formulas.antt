-- A PLACE THAT WAS WORKED OUT holds the cost that its formula says, so formulas that agree have one root word and one base word. Assumes nothing.
use mathlib.Core.Path.{refl, sym, ap, ap₂, ◌∙◌}
use mathlib.Core.List.{List}
use Prim.Native.Nat.{ℕ, ◌<◌}
use native.Mathlib.Omega.{arith}
use lib.IntN.{ℤ, ◌+ℤ◌, ◌-ℤ◌}
use Rattle.theory.specs.Functions.{Agree, Amount}
use Rattle.theory.specs.Costs.{costs, Cost, amount}
use Rattle.settings.specs.Refusals.{Taken}
use Rattle.promises.specs.CostOperations as O
use Rattle.theory_costs.proofs.Relative.{offs}
use Rattle.promises.specs.State.{on}
use Rattle.promises.specs.Deed.{Meets}
use Rattle.promises.specs.Table.{state_of}
use Rattle.promises.specs.CostDeeds.{cost_looked, costed, join, scale}
use Rattle.table_calls.proofs.Like.{clear, rest}
use Rattle.cost_calls.proofs.Answering.{agree_roots, agree_bases}
use Rattle.table_calls.proofs.Drawn.{placed}
use Rattle.cost_calls.proofs.Edge.{drawn}
use Rattle.call_laws.specs.Formulas.{One, Formula, said_by, Worked, source, stays, added, subtracted, smaller, larger, scaled}
use Rattle.call_laws.proofs.Standing.{there, still_agrees, written_agrees}
use Rattle.promises.specs.Words.{sizes}
use Rattle.promises.specs.CostWords.{cost_of}
use Rattle.promises.specs.CostSound.{CostSound as Sound}

-- what a taken call gives of places that agree with f and g
on_agrees : (w : List ℕ) (a : ℕ) {f : Cost} → a < 16 → Agree (sizes w) (cost_of w a) f → Agree (sizes w) (on (state_of costed w) a) f
on_agrees w a h i s v = sym (placed cost_looked drawn w a h s v) ∙ i s v

pairs_give : (F : ℤ → ℤ → ℤ) {p a b : ℕ} {w v : List ℕ} {f g : Cost} → Agree (sizes w) (cost_of w a) f → Agree (sizes w) (cost_of w b) g → Meets (join F p a b) w v Taken →
    Agree (sizes v) (cost_of v p) (O.joined F f g)
pairs_give F {p} {a} {b} {w} i j c =
    let h = there (clear (rest c.ends)) in
    written_agrees cost_looked drawn refl c refl (h 0 (omega arith))
    (λ s v. ap₂ (λ (k l : ℤ). amount (F k l)) (offs (on_agrees w a (h 1 (omega arith)) i s v)) (offs (on_agrees w b (h 2 (omega arith)) j s v)))

scales_give : {p a : ℕ} {k : ℤ} {w v : List ℕ} {f : Cost} → Agree (sizes w) (cost_of w a) f → Meets (scale p a k) w v Taken → Agree (sizes v) (cost_of v p) (O.scaled k f)
scales_give {a = a} {k = k} {w = w} i c =
    let h = there (clear (rest c.ends)) in
    written_agrees cost_looked drawn refl c refl (h 0 (omega arith)) (λ s v. ap (λ (x : Amount costs). O.scaled k (λ t. x) s) (on_agrees w a (h 1 (omega arith)) i s v))

pub worked_gives : {w : List ℕ} {p : ℕ} {x : Formula} → Worked w p x → Agree (sizes w) (cost_of w p) (said_by x)
worked_gives (source w p) = λ s v. refl
worked_gives (stays i k) = still_agrees cost_looked drawn (worked_gives i) k
worked_gives (added i j c) = pairs_give ◌+ℤ◌ (worked_gives i) (worked_gives j) c
worked_gives (subtracted i j c) = pairs_give ◌-ℤ◌ (worked_gives i) (worked_gives j) c
worked_gives (smaller i j c) = pairs_give O.smaller_of (worked_gives i) (worked_gives j) c
worked_gives (larger i j c) = pairs_give O.larger_of (worked_gives i) (worked_gives j) c
worked_gives (scaled i c) = scales_give (worked_gives i) c

-- ANY LAW OF COSTS: two places of one table whose formulas agree at every setting
pub one_formula : {w : List ℕ} (p q : ℕ) {x y : Formula} → Sound w → p < 16 → q < 16 → Worked w p x → Worked w q y → Agree (sizes w) (said_by x) (said_by y) → One w p q
one_formula {w} p q z hp hq i j a =
    let e : Agree (sizes w) (cost_of w p) (cost_of w q) = λ s v. worked_gives i s v ∙ a s v ∙ sym (worked_gives j s v) in
    (agree_roots z p q hp hq e, agree_bases z p q hp hq e)
