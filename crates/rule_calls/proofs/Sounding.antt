-- What a sound table gives a call: room, a feature list, roots that are branches, and that a root may be replaced. Assumes nothing.
use mathlib.Core.Path.{◌≡◌}
use mathlib.Core.List.{List}
use Prim.Native.Nat.{ℕ, ◌≤◌, ◌<◌}
use native.Mathlib.Omega.{arith}
use lib.ListN.{length}
use Rattle.theory.specs.Settings.{FeatureList, Pos}
use Rattle.theory.specs.WellFormed.{Ok, WellFormed}
use Rattle.theory.specs.Tally.{tally}
use Rattle.table_checks.proofs.Pictures.{tested_wf, tested_root, tested_list}
use Rattle.table_calls.proofs.Sounding.{tested_pos, tested_untidy, tested_tally}
use Rattle.rule_words.proofs.Regular.{regular}
use Rattle.rule_sound.proofs.Pictures.{sound_tested}
use Rattle.rule_collect.specs.Tidy.{Untidy}
use Rattle.promises.specs.Words.{count, sizes}
use Rattle.promises.specs.RuleWords.{decode, rule_node_list as nodes, rule_root as root, rules_of}
use Rattle.promises.specs.RuleSound.{RuleSound as Sound}

module _ {w : List ℕ} (s : Sound w) where
  pub sound_long : 8192 ≤ length w
  sound_long = omega (arith, s.header.room)

  pub sound_list : FeatureList (sizes w)
  sound_list = tested_list regular (sound_tested s)

  pub sound_pos : Pos (sizes w)
  sound_pos = tested_pos regular (sound_tested s)

  pub sound_wf : WellFormed (sizes w) (nodes w)
  sound_wf = tested_wf regular (sound_tested s)

  pub sound_root : (p : ℕ) → p < 32 → Ok (nodes w) 0 (decode (root w p))
  sound_root = tested_root regular (sound_tested s)

  -- the root of place p may be replaced
  pub sound_untidy : (p : ℕ) → p < 32 → Untidy p w
  sound_untidy p h = tested_untidy regular (sound_tested s) p (omega arith)

  -- TALLY: the nodes in use are as many as the distinct rests of all 32 rules
  pub sound_tally : count w ≡ tally (sizes w) (rules_of w)
  sound_tally = tested_tally regular (sound_tested s)
