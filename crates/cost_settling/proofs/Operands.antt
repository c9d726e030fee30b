-- What a place of a sound cost table gives the walks over it. Assumes nothing.
use mathlib.Core.Path.{◌≡◌, sym, subst}
use mathlib.Core.List.{List}
use Prim.Native.Nat.{ℕ, ◌<◌}
use native.Mathlib.Omega.{arith}
use Rattle.theory.specs.Costs.{costs}
use Rattle.theory.specs.Diagrams.{Branch, meaning}
use Rattle.theory.specs.WellFormed.{Ok}
use Rattle.table_notes.specs.Plain.{Resting}
use Rattle.table_checks.proofs.Pictures.{tested_root}
use Rattle.cost_words.proofs.Regular.{regular}
use Rattle.cost_sound.proofs.Pictures.{sound_narrow, sound_tested}
use Rattle.cost_notes.specs.Operand.{Operand}
use Rattle.cost_settling.proofs.Settling.{sound_holds}
use Rattle.promises.specs.Range.{Within, cost_most}
use Rattle.promises.specs.Words.{sizes}
use Rattle.promises.specs.CostWords.{cost_node_list as nodes, root_at}
use Rattle.promises.specs.CostSound.{CostSound as Sound}

-- a sound table is at rest
pub sound_rest : {w : List ℕ} → Sound w → Resting w
sound_rest s = record {
  roomy = record { room = s.header.room; most = s.header.most };
  some = s.header.some;
  empty = record { zeros = λ j h l. s.header.clean.zeros j (omega (arith, s.header.within)) l };
}

-- the branch b of place p may be asked about
pub place_operand : {w : List ℕ} (s : Sound w) (p : ℕ) {b : Branch costs} → b ≡ root_at w p → p < 16 → Operand w b
place_operand {w} s p e h = record {
  holds = sound_holds s;
  rest = sound_rest s;
  narrow = sound_narrow s;
  ok = subst (Ok (nodes w) 0) (sym e) (tested_root regular (sound_tested s) p h);
  within = subst (λ (d : Branch costs). Within cost_most (sizes w) (meaning (nodes w) d)) (sym e) (s.ranged.ranged p h);
}
