-- `settings::turn` meets its contract. The invariant: the values from place i on have no next setting, and are turned to 0. Assumes nothing.
use Rattle.std.proofs.Common.{take, drop, length, ◌≡◌}
use Rattle.std.proofs.Math.Option.{none}
use Rattle.settings.proofs.Turning.{turned}
use Rattle.settings.specs.Step.{next_of}
use Rattle.settings.proofs.steps.turn.Given as goal

abbrev pub invariant-loop-i : goal.invariant-loop-i
invariant-loop-i l =
    (length l.fn.from ≡ 16) × (length l.values ≡ 16) × (l.values ≡ turned (length l.features) l.fn.from l.i) × (next_of (drop l.i l.features) (drop l.i (take (length l.features) l.fn.from)) ≡ none)
