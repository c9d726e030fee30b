-- `sheet_bytes::laying::lay` meets its contract: the nodes passed lie where `place` says, and their places are noted. Assumes nothing.
use Rattle.std.proofs.Common.{ℕ, ◌+◌, ◌*◌, ◌≤◌, ◌<◌, ◌≡◌}
use Rattle.sheet_bytes.specs.Bytes.{Holds}
use Rattle.promises.specs.Sheet.{sheet_features as features, node_place as place, sheet_feature as feature}
use Rattle.sheet_bytes.proofs.laying.lay.Given as goal

abbrev pub invariant-loop-i : goal.invariant-loop-i
invariant-loop-i l = record {
  place : l.p ≡ place l.s l.i;
  below : l.p ≤ 23 + 25 * l.i;
  known : (j : ℕ) → j < l.i → feature l.s j < features l.s;
  noted : Holds l.s l.places l.i;
}
