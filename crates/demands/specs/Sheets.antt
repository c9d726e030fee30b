-- A sheet that passed a call, and its rule. Assumes nothing.
use Rattle.std.specs.Prelude.{◌≡◌, List, ℕ, take, Ok}
use Rattle.theory.specs.Rules.{Rule}
use Rattle.settings.specs.Refusals.{Outcome}
use Rattle.settings.specs.Refusals.{Taken}
use Rattle.promises.specs.declared.Looked.{Looked}
use Rattle.promises.specs.Words.{sizes}
use Rattle.promises.specs.Sheet.{sheet_sizes, sheet_rule}
use Rattle.promises.specs.State.{on}
use Rattle.promises.specs.Table.{state_of}
use Rattle.promises.specs.Deed.{Meets}
use Rattle.promises.specs.RuleDeeds.{ruled}
use Rattle.promises.specs.SheetDeeds.{read_sheet, write_sheet, look_up_in, look_up_all_in}

-- the list, the rule and the bytes of a sheet that write wrote, that read took, or that the phone's look up took, of one setting or of many
pub data Passed : List ℕ → Rule → List ℕ → Type 0 where
  written : {p n : ℕ} {w w' out out' : List ℕ} → Meets (write_sheet p out) w w' (Ok n, out') → Passed (sizes w) (on (state_of ruled w) p) (take n out')
  taken_in : {p : ℕ} {s w w' : List ℕ} {o : Outcome} → Meets (read_sheet p s) w w' o → o ≡ Taken → Passed (sizes w) (on (state_of ruled w') p) s
  looked_up : {s t : List ℕ} {v : Looked} → Meets (look_up_in s t) tt tt (Ok v) → Passed (sheet_sizes s) (sheet_rule s) s
  all_looked_up : {s t out : List ℕ} {r : Outcome × List ℕ} → Meets (look_up_all_in s t out) tt tt r → r.0 ≡ Taken → Passed (sheet_sizes s) (sheet_rule s) s
