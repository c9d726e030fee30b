-- What the calls that are lent both tables do to the functions of both. Assumes nothing.
use Rattle.std.specs.Prelude.{◌≡◌, refl, List, [], ◌∷◌, ℕ, ℤ, pos}
use Rattle.settings.specs.Step.{setting_of}
use Rattle.settings.specs.Refusals.{Cases, ◌when◌else◌, taken}
use Rattle.settings.specs.declared.refusals.Refusal.TheVariants.{BadPlace, OtherFeatures, None}
use Rattle.settings.specs.declared.steps.Setting.{Setting}
use Rattle.promises.specs.declared.Found.{Found}
use Rattle.promises.specs.CostOperations.{chosen, is_below}
use Rattle.promises.specs.Lowest.{Lowest, NoneMarked}
use Rattle.promises.specs.State.{on, Places, room_cases}
use Rattle.promises.specs.Loan.{Loan, ◌and◌}
use Rattle.promises.specs.Table.{table, keeps, puts}
use Rattle.promises.specs.Deed.{Answer, Deed, carried, plain, reads}
use Rattle.promises.specs.RuleDeeds.{ruled}
use Rattle.promises.specs.CostDeeds.{costed, range_cases}

-- a lent rule table and a lent cost table
abbrev pub both : Loan
both = table ruled and table costed

-- the door of both: BAD PLACE where one of the rule places l or of the cost places m is none, OTHER FEATURES where the two lists differ, then the rest
abbrev pub both_front : List ℕ → List ℕ → both.Plain → Cases → Cases
both_front l m z rest = BadPlace when ((Places 32 l × Places 16 m) → ⊥) else OtherFeatures when (z.0.list ≡ z.1.list → ⊥) else rest

-- CHOOSE: where the rule of place q is not 0 the cost of place a, else that of place b
abbrev pub choose : ℕ → ℕ → ℕ → ℕ → Deed both
choose p q a b =
    plain
    (λ z. both_front (q ∷ []) (p ∷ a ∷ b ∷ []) z (range_cases (chosen (on z.0 q) (on z.1 a) (on z.1 b)) z.1))
    (λ z. (keeps, puts p (chosen (on z.0 q) (on z.1 a) (on z.1 b))))

-- LESS: 1 where the cost of place a is below that of place b, else 0
abbrev pub less_than : ℕ → ℕ → ℕ → Deed both
less_than p a b =
    plain
    (λ z. both_front (p ∷ []) (a ∷ b ∷ []) z (room_cases (is_below (on z.1 a) (on z.1 b)) z.0))
    (λ z. (puts p (is_below (on z.1 a) (on z.1 b)), keeps))

-- LOWEST: the lowest that the cost of place a gives where the rule of place q is not 0, and the first setting that has it
abbrev pub found : Answer (ℤ × Setting)
found =
    let read : Found → ℤ × Setting = λ v. (v.cost, v.setting) in
    let write : ℤ × Setting → Found = λ a. record { cost = a.0; setting = a.1 } in
    carried read write (pos 0, setting_of []) (λ v. refl)

abbrev pub lowest : ℕ → ℕ → Deed both
lowest a q =
    reads found (pos 0, setting_of [])
    (λ z. both_front (q ∷ []) (a ∷ []) z (None when (NoneMarked z.1.list (on z.0 q)) else taken))
    (λ z x. (u : List ℕ) × (x.1 ≡ setting_of u) × Lowest z.1.list (on z.1 a) (on z.0 q) x.0 u)
