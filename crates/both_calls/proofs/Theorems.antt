-- No words are a sound table of both kinds. Assumes nothing.
use mathlib.Core.Path.{sym, ◌∙◌}
use mathlib.Core.List.{List}
use Prim.Native.Nat.{ℕ}
use native.Mathlib.Omega.{arith}
use Rattle.rule_sound.proofs.Pictures.{sound_kind as rules-kind}
use Rattle.cost_sound.proofs.Pictures.{sound_kind}
use Rattle.promises.specs.RuleSound.{RuleSound as SoundRules}
use Rattle.promises.specs.CostSound.{CostSound as Sound}

-- THEOREM: no rule table is a sound cost table, nor the other way round
pub kinds_apart : {w : List ℕ} → SoundRules w → Sound w → ⊥
kinds_apart r s = omega (arith, sym (rules-kind r) ∙ sound_kind s)
