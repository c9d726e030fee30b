-- What each call does to a cost table as 16 plain functions. Assumes nothing.
use Rattle.std.specs.Prelude.{◌≡◌, refl, ◌⊎◌, List, [], ◌∷◌, ℕ, ◌≤◌, ◌<◌, ℤ, pos, ◌+ℤ◌, ◌-ℤ◌, length, get_or}
use Rattle.theory.specs.Functions.{Amount}
use Rattle.theory.specs.Costs.{costs, Cost, amount}
use Rattle.settings.specs.Refusals.{Cases, ◌when◌else◌}
use Rattle.settings.specs.declared.refusals.Refusal.TheVariants.{BadArgument, Range}
use Rattle.promises.specs.declared.CostLooked.{CostLooked}
use Rattle.promises.specs.Integers.{Fit}
use Rattle.promises.specs.CostOperations.{smaller_of, larger_of, priced, joined, scaled}
use Rattle.promises.specs.Range.{LeavesRange, cost_most}
use Rattle.promises.specs.CostWords.{costs_of}
use Rattle.promises.specs.CostSound.{CostSound}
use Rattle.promises.specs.State.{State, on, front, room_cases}
use Rattle.promises.specs.Table.{Tabled, table, puts}
use Rattle.promises.specs.Deed.{Answer, Deed, carried, plain}

abbrev pub cost_looked : Answer (Amount costs × ℕ)
cost_looked =
    let read : CostLooked → Amount costs × ℕ = λ v. (amount v.cost, v.asked) in
    let write : Amount costs × ℕ → CostLooked = λ a. record { cost = a.0.off; asked = a.1 } in
    carried read write (amount (pos 0), 0) (λ v. refl)

-- THE COST TABLE
abbrev pub costed : Tabled costs
costed = record { places = 16; said = costs_of; Sound = CostSound; InRange = λ x. Fit cost_most x.off; looked = cost_looked }

-- each price lies within ±1,000,000,000
pub record Priced (l : List ℤ) : Type 0 where
  pub each : (v : ℕ) → v < length l → Fit cost_most (get_or l v (pos 0))

-- PRICE LIST: a price for each value of feature f
abbrev pub price : ℕ → ℕ → List ℤ → Deed (table costed)
price p f l =
    plain
    (λ z. front 16 (p ∷ []) (BadArgument when ((length z.list ≤ f) ⊎ ((length l ≡ get_or z.list f 0 → ⊥) ⊎ (Priced l → ⊥))) else room_cases (priced f l) z))
    (λ z. puts p (priced f l))

-- a cost that is worked out: RANGE where it leaves its range, even in a full table, then NO ROOM
abbrev pub range_cases : Cost → State costs → Cases
range_cases g z = Range when (LeavesRange z.list g) else room_cases g z

-- ADD, SUBTRACT, SMALLER, LARGER: what the costs of places a and b give together
abbrev pub join : (ℤ → ℤ → ℤ) → ℕ → ℕ → ℕ → Deed (table costed)
join F p a b =
    plain
    (λ z. front 16 (p ∷ a ∷ b ∷ []) (range_cases (joined F (on z a) (on z b)) z))
    (λ z. puts p (joined F (on z a) (on z b)))

abbrev pub add : ℕ → ℕ → ℕ → Deed (table costed)
add p a b = join ◌+ℤ◌ p a b

abbrev pub subtract : ℕ → ℕ → ℕ → Deed (table costed)
subtract p a b = join ◌-ℤ◌ p a b

abbrev pub smaller : ℕ → ℕ → ℕ → Deed (table costed)
smaller p a b = join smaller_of p a b

abbrev pub larger : ℕ → ℕ → ℕ → Deed (table costed)
larger p a b = join larger_of p a b

-- SCALE: the cost of place a times the integer c
abbrev pub scale : ℕ → ℕ → ℤ → Deed (table costed)
scale p a c =
    plain
    (λ z. front 16 (p ∷ a ∷ []) (BadArgument when (Fit cost_most c → ⊥) else range_cases (scaled c (on z a)) z))
    (λ z. puts p (scaled c (on z a)))
