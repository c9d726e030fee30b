-- The laws of the end of a call that builds: what was built may be settled, and what is settled is written, or the table is as it was. Assumes nothing.
use Rattle.std.specs.Prelude.{Option}
use mathlib.Core.List.{List}
use Prim.Native.Nat.{ℕ, ◌<◌}
use Rattle.theory.specs.Rules.{Rule}
use Rattle.settings.specs.Refusals.{Outcome}
use Rattle.rule_settling.proofs.Settling as S
use Rattle.rule_inside.specs.Building.{built_out}
use Rattle.rule_inside.specs.Settling.{Marked, marked_out, asking_in, ending_out}
use Rattle.rule_lending.specs.Building.{Result}
use Rattle.rule_lending.specs.Settling.{Puts, Asks, Settled}
use Rattle.promises.specs.RuleSound.{RuleSound as Sound}

-- the rule g, built into the sound table w after its mark n
module _ {w t : List ℕ} {p n : ℕ} (g : Rule) (a : Option ℕ) (s : Sound w) (r : Result w t 0 g a) (hp : p < 32) (m : Marked w n) where
  -- `settle` may be asked
  pub settle_asks : Asks p n t a
  settle_asks = asking_in (S.settle_asks g a s (built_out r) hp (marked_out m))

  -- THE LAW of every call that builds: NO ROOM exactly where the rests exceed the capacity, and then nothing is changed; else the rule is written
  pub settles : {t' : List ℕ} {o : Outcome} → Settled p n t t' a o → Puts p g w t' o
  settles e = S.settles g a s (built_out r) hp (marked_out m) (ending_out e)
