-- What the stepper answers, as a deed: its promise `Steps` lies below the deeds. Assumes nothing.
use Rattle.std.specs.Prelude.{List, [], ℕ}
use Rattle.settings.specs.Step.{values_of, setting_of, Inside, next_of, Gives}
use Rattle.settings.specs.Refusals.{◌when◌else◌, taken}
use Rattle.settings.specs.declared.refusals.Refusal.TheVariants.{BadArgument}
use Rattle.settings.specs.declared.steps.Setting.{Setting}
use Rattle.settings.specs.declared.steps.Stepped.{Stepped}
use Rattle.settings.specs.declared.steps.Stepped.TheVariants.{Last}
use Rattle.promises.specs.Loan.{no_table}
use Rattle.promises.specs.Deed.{Answer, Deed, carries, reads}

-- the next setting, or that there is none and the all-zero one
abbrev pub stepped : Answer Stepped
stepped = carries (Last (setting_of []))

-- the setting after s of the list S, or that s was the last
abbrev pub step_on : List ℕ → Setting → Deed no_table
step_on S s = reads stepped (Last (setting_of [])) (λ z. BadArgument when (Inside S s → ⊥) else taken) (λ z a. Gives S (next_of S (values_of s)) a)
