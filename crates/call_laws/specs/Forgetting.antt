-- FORGETTING AS IT WAS FIRST ASKED FOR, the largest number, and the rules of which it says the same. Assumes nothing.
use Rattle.std.specs.Prelude.{List, [], ◌∷◌, ℕ, ◌≤◌, ◌<◌, length, get_or, set}
use Rattle.theory.specs.Settings.{Valid}
use Rattle.theory.specs.Rules.{Rule, says}
use Rattle.settings.specs.Refusals.{◌when◌else◌}
use Rattle.settings.specs.declared.refusals.Refusal.TheVariants.{BadArgument}
use Rattle.rule_operators.specs.Forgetting.{largest_of}
use Rattle.promises.specs.Tab.{tab}
use Rattle.promises.specs.Words.{size, sizes}
use Rattle.promises.specs.RuleWords.{rule_of}
use Rattle.promises.specs.State.{on, front, room_cases}
use Rattle.promises.specs.Table.{table, puts}
use Rattle.promises.specs.Deed.{Deed, plain}
use Rattle.promises.specs.RuleDeeds.{ruled}

-- the numbers that place q gives a setting over the values of feature f
abbrev pub over : List ℕ → ℕ → ℕ → List ℕ → List ℕ
over w q f s = tab (λ v. (rule_of w q (set s f v)).end) (size w f)

-- the largest of the numbers over the n values of feature f
abbrev pub largest : ℕ → ℕ → Rule → Rule
largest f n g = λ s. says (largest_of (tab (λ v. (g (set s f v)).end) n))

-- the deed of forgetting with the largest number in place of what is left
abbrev pub forget_largest : ℕ → ℕ → ℕ → Deed (table ruled)
forget_largest p q f =
    plain
    (λ z. front 32 (p ∷ q ∷ []) (BadArgument when (length z.list ≤ f) else room_cases (largest f (get_or z.list f 0) (on z q)) z))
    (λ z. puts p (largest f (get_or z.list f 0) (on z q)))

-- the rule of place q gives every setting 0 or 1
pub record YesNo (w : List ℕ) (q : ℕ) : Type 0 where
  pub small : (s : List ℕ) → Valid (sizes w) s → (rule_of w q s).end < 2
