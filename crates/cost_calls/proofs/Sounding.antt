-- What a sound table gives a call: room, places that are branches, and that a place may be replaced. Assumes nothing.
use mathlib.Core.Path.{◌≡◌}
use mathlib.Core.List.{List}
use Prim.Native.Nat.{ℕ, ◌≤◌, ◌<◌}
use native.Mathlib.Omega.{arith}
use lib.ListN.{length}
use Rattle.theory.specs.Settings.{Pos}
use Rattle.theory.specs.WellFormed.{Ok, WellFormed}
use Rattle.theory.specs.Tally.{tally}
use Rattle.table_checks.proofs.Pictures.{tested_wf, tested_root}
use Rattle.table_calls.proofs.Sounding.{tested_pos, tested_untidy, tested_tally}
use Rattle.cost_words.proofs.Regular.{regular}
use Rattle.cost_sound.proofs.Pictures.{sound_tested}
use Rattle.cost_collect.specs.Tidy.{Untidy}
use Rattle.promises.specs.Words.{count, sizes}
use Rattle.promises.specs.CostWords.{cost_node_list as nodes, root_at, costs_of}
use Rattle.promises.specs.CostSound.{CostSound as Sound}

module _ {w : List ℕ} (s : Sound w) where
  pub sound_long : 8192 ≤ length w
  sound_long = omega (arith, s.header.room)

  pub sound_pos : Pos (sizes w)
  sound_pos = tested_pos regular (sound_tested s)

  pub sound_wf : WellFormed (sizes w) (nodes w)
  sound_wf = tested_wf regular (sound_tested s)

  pub sound_root : (p : ℕ) → p < 16 → Ok (nodes w) 0 (root_at w p)
  sound_root = tested_root regular (sound_tested s)

  -- place p may be replaced
  pub sound_untidy : (p : ℕ) → p < 16 → Untidy p w
  sound_untidy p h = record { untidy = tested_untidy regular (sound_tested s) p (omega arith); range = s.ranged.ranged }

  -- TALLY: the nodes in use are as many as the distinct rests of all 16 costs
  pub sound_tally : count w ≡ tally (sizes w) (costs_of w)
  sound_tally = tested_tally regular (sound_tested s)
