-- A sound table can be walked, and a place of it is a run. Assumes nothing.
use mathlib.Core.Path.{◌≡◌}
use mathlib.Core.List.{List}
use Prim.Native.Nat.{ℕ, ◌+◌, ◌<◌}
use native.Mathlib.Omega.{arith}
use Rattle.rule_sound.proofs.Sitting.{ordered_wf, sits_ok}
use Rattle.rule_sound.proofs.Pictures.{ordered, sound_proper}
use Rattle.rule_numbering.specs.Walkable.{Walkable, Stands}
use Rattle.rule_numbering.specs.Running.{Run}
use Rattle.promises.specs.RuleWords.{rule_root as root}
use Rattle.promises.specs.RuleSound.{RuleSound as Sound}

module _ {w : List ℕ} (s : Sound w) where
  pub sound_walkable : Walkable w
  sound_walkable =
      record {
        room = omega (arith, s.header.room, s.header.within);
        most = omega (arith, s.header.most, s.header.within);
        list = (sound_proper s).list;
        wf = ordered_wf (ordered s);
      }

  pub sound_stands : (p : ℕ) → p < 32 → Stands w (root w p)
  sound_stands p h = sits_ok (s.roots_ok.rooted p h)

  pub sound_run : (p : ℕ) → p < 32 → Run w p 1
  sound_run p h =
      record { within = omega arith; stand = λ q l. let e : p + q ≡ p = omega arith in rw e (sound_stands p h) }
