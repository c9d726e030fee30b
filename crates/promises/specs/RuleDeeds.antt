-- What each call does to a rule table as 32 plain functions. Assumes nothing.
use Rattle.std.specs.Prelude.{◌≡◌, refl, ◌⊎◌, List, [], ◌∷◌, ℕ, ◌^◌, ◌≤◌, ◌<◌, length, get_or, set}
use Rattle.theory.specs.Settings.{Valid}
use Rattle.theory.specs.Functions.{Amount}
use Rattle.theory.specs.Counted.{count_of, Reaches}
use Rattle.theory.specs.First.{FirstFrom, NoneFrom}
use Rattle.theory.specs.Operations.{restricted}
use Rattle.theory.specs.Rules.{rules, Rule, says}
use Rattle.settings.specs.Step.{setting_of}
use Rattle.settings.specs.Refusals.{◌when◌else◌, taken}
use Rattle.settings.specs.declared.refusals.Refusal.TheVariants.{BadArgument, BadSelector, None}
use Rattle.settings.specs.declared.steps.Setting.{Setting}
use Rattle.promises.specs.declared.Looked.{Looked}
use Rattle.promises.specs.Tab.{tab}
use Rattle.promises.specs.RuleWords.{rules_of}
use Rattle.promises.specs.RuleSound.{RuleSound}
use Rattle.promises.specs.Operators.{pair_of, case_of, forgotten_of, literal_of, set_size}
use Rattle.promises.specs.State.{State, on, front, room_cases}
use Rattle.promises.specs.Table.{Tabled, table, puts}
use Rattle.promises.specs.Deed.{Answer, Deed, carried, carries, plain, reads, answers}

-- ---- what the calls answer
abbrev pub looked : Answer (Amount rules × ℕ)
looked =
    let read : Looked → Amount rules × ℕ = λ v. (says v.number, v.asked) in
    let write : Amount rules × ℕ → Looked = λ a. record { number = a.0.end; asked = a.1 } in
    carried read write (says 0, 0) (λ v. refl)

abbrev pub spelled : Answer ℕ
spelled = carries 0

abbrev pub counted : Answer ℕ
counted = carries 0

abbrev pub met : Answer Setting
met = carries (setting_of [])

-- THE RULE TABLE
abbrev pub ruled : Tabled rules
ruled = record { places = 32; said = rules_of; Sound = RuleSound; InRange = λ x. x.end < 65536; looked = looked }

-- ---- calls that write
-- LITERAL: 1 where the value of feature f is in the set x, else 0; it answers how many values the set has
abbrev pub literal : ℕ → ℕ → ℕ → Deed (table ruled)
literal p f x =
    answers spelled 0
    (λ z. front 32 (p ∷ []) (BadArgument when ((length z.list ≤ f) ⊎ (2 ^ get_or z.list f 0 ≤ x)) else room_cases (literal_of f x) z))
    (λ z. puts p (literal_of f x))
    (λ z n. n ≡ set_size (get_or z.list f 0) x)

-- CASE: of the rules of the places l, the one whose index is the number of the rule of place q
abbrev pub case_rule : State rules → ℕ → List ℕ → Rule
case_rule z q l = λ s. says (case_of (on z q s).end (tab (λ j. (on z (get_or l j 0) s).end) (length l)))

abbrev pub case : ℕ → ℕ → List ℕ → Deed (table ruled)
case p q l =
    plain
    (λ z. front 32 (p ∷ q ∷ l)
    (BadArgument when ((length l < 1) ⊎ (8 < length l))
    else BadSelector when (Reaches z.list (on z q) (length l))
    else room_cases (case_rule z q l) z))
    (λ z. puts p (case_rule z q l))

-- APPLY: the operator x of two rules
abbrev pub applied : ℕ → Rule → Rule → Rule
applied x g h = λ s. says (pair_of x (g s).end (h s).end)

abbrev pub apply : ℕ → ℕ → ℕ → ℕ → Deed (table ruled)
apply p x a b =
    plain
    (λ z. front 32 (p ∷ a ∷ b ∷ []) (BadArgument when ((x < 1) ⊎ (5 < x)) else room_cases (applied x (on z a) (on z b)) z))
    (λ z. puts p (applied x (on z a) (on z b)))

-- RESTRICT: feature f held at the value x
abbrev pub restrict : ℕ → ℕ → ℕ → ℕ → Deed (table ruled)
restrict p q f x =
    plain
    (λ z. front 32 (p ∷ q ∷ []) (BadArgument when ((length z.list ≤ f) ⊎ (get_or z.list f 0 ≤ x)) else room_cases (restricted f x (on z q)) z))
    (λ z. puts p (restricted f x (on z q)))

-- FORGET: what is left of the numbers over the n values of feature f
abbrev pub without : ℕ → ℕ → Rule → Rule
without f n g = λ s. says (forgotten_of (tab (λ v. (g (set s f v)).end) n))

abbrev pub forget : ℕ → ℕ → ℕ → Deed (table ruled)
forget p q f =
    plain
    (λ z. front 32 (p ∷ q ∷ []) (BadArgument when (length z.list ≤ f) else room_cases (without f (get_or z.list f 0) (on z q)) z))
    (λ z. puts p (without f (get_or z.list f 0) (on z q)))

-- ---- calls that read
-- COUNT: how many settings place p gives the number x
abbrev pub count_with : ℕ → ℕ → Deed (table ruled)
count_with p x = reads counted 0 (λ z. front 32 (p ∷ []) (BadArgument when (65536 ≤ x) else taken)) (λ z n. n ≡ count_of z.list (on z p) x)

-- NEXT: the first setting at or after s to which place p gives the number x; refused, the setting of no values
abbrev pub next_with : ℕ → ℕ → List ℕ → Deed (table ruled)
next_with p x s =
    reads met (setting_of [])
    (λ z. front 32 (p ∷ []) (BadArgument when ((65536 ≤ x) ⊎ (Valid z.list s → ⊥)) else None when (NoneFrom z.list (on z p) x s) else taken))
    (λ z t. (u : List ℕ) × (t ≡ setting_of u) × FirstFrom z.list (on z p) x s u)
