-- A call that built a rule and put it on a place meets its deed. Assumes nothing.
use Rattle.table_calls.proofs.Theorems.{puts_one}
use mathlib.Core.Path.{◌≡◌}
use mathlib.Core.List.{List}
use Prim.Native.Nat.{ℕ}
use Rattle.theory.specs.Functions.{Agree}
use Rattle.theory.specs.Rules.{Rule}
use Rattle.settings.specs.Refusals.{Ends}
use Rattle.settings.specs.declared.refusals.Refusal.{Refusal}
use Rattle.settings.specs.Refusals.{Outcome}
use Rattle.settings.specs.Refusals.{Taken, Refused}
use Rattle.promises.specs.Words.{sizes}
use Rattle.promises.specs.State.{room_cases}
use Rattle.promises.specs.Deed.{Deed, refusals, Meets}
use Rattle.promises.specs.Table.{puts, state_of, table}
use Rattle.promises.specs.RuleDeeds.{looked, ruled}
use Rattle.table_calls.proofs.Drawn.{room_ends, wrote}
use Rattle.rule_calls.proofs.Edge.{drawn}
use Rattle.rule_settling.specs.Settling.{Puts}

-- the deed's rule h is the built rule g said otherwise; t tells of the refusals before NO ROOM
pub built_meets : {d : Deed (table ruled)} {w w' : List ℕ} {r : d.Result} {p : ℕ} {g h : Rule} {o : Outcome} → d.ending r ≡ o → d.writes (state_of ruled w) ≡ puts p h
    → Puts p g w w' o → Agree (sizes w) g h →
    (Ends (room_cases h (state_of ruled w)) o → Ends (refusals d w) o) → (o ≡ Taken → d.Gives (state_of ruled w) r) → ((y : Refusal) → o ≡ Refused y → r ≡ d.refusal y) → Meets d w w' r
built_meets {d} {w} {h = h} {o = o} e f x a t k q = wrote looked drawn {d = d} e f (puts_one x h a) (t (room_ends looked drawn w h o (puts_one x h a).ends)) k q
