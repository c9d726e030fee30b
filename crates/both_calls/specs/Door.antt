-- Contract between layers: THE DOOR of the calls that are lent both tables, the one test of each. Assumes nothing.
use Rattle.std.specs.Prelude.{◌≡◌, List, ℕ}
use Rattle.settings.specs.Refusals.{Ends, ◌when◌else◌, taken}
use Rattle.settings.specs.declared.refusals.Refusal.TheVariants.{Damaged}
use Rattle.settings.specs.Refusals.{Outcome}
use Rattle.settings.specs.Refusals.{Taken}
use Rattle.promises.specs.Words.{sizes}
use Rattle.promises.specs.RuleSound.{RuleSound}
use Rattle.promises.specs.CostSound.{CostSound}
use Rattle.promises.specs.State.{Places}
use Rattle.promises.specs.BothDeeds.{both, both_front}

-- of the rule table v the places l, of the cost table w the places m of a call tested
pub record EntersBoth (l m v w : List ℕ) (o : Outcome) : Type 0 where
  pub ends : Ends (Damaged when ((RuleSound v × CostSound w) → ⊥) else both_front l m (both.says (v, w)) taken) o
  pub rules : o ≡ Taken → RuleSound v
  pub costs : o ≡ Taken → CostSound w
  pub rule_places : o ≡ Taken → Places 32 l
  pub cost_places : o ≡ Taken → Places 16 m
  pub lists : o ≡ Taken → sizes v ≡ sizes w
