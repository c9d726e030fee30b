-- The calls on bytes alone: the stepper, and the phone's look up in a sheet, of one setting and of many. Assumes nothing.
use Rattle.std.specs.Prelude.{List, ℕ}
use Rattle.settings.specs.declared.steps.Setting.{Setting}
use Rattle.promises.specs.Loan.{no_table}
use Rattle.promises.specs.Deed.{Deed}
use Rattle.promises.specs.SheetDeeds.{look_up_in, look_up_all_in}
use Rattle.demands.specs.Ground.{no_ground}
use Rattle.demands.specs.Run.{Part}
use Rattle.demands.specs.ByteDeeds.{step_on}

pub data Call : Type 0 where
  step_call : (features : List ℕ) → (setting : Setting) → Call
  look_up_call : (sheet setting : List ℕ) → Call
  look_up_all_call : (sheet settings numbers : List ℕ) → Call

abbrev pub deed : Call → Deed no_table
deed (step_call S s) = step_on S s
deed (look_up_call s t) = look_up_in s t
deed (look_up_all_call s t out) = look_up_all_in s t out

abbrev pub on_bytes : Part
on_bytes = record { loan = no_table; basis = no_ground; Call = Call; deed = deed }
