-- `cost_sound::alike` meets its contract: each branch passed goes where branch 0 goes and adds 0. Assumes nothing.
use Rattle.std.proofs.Common.{ℕ, ◌<◌, ◌≡◌}
use Rattle.promises.specs.CostWords.{goes, added}
use Rattle.promises.specs.Words.{feature, size, body}
use Rattle.promises.specs.Integers.{bias}
use Rattle.cost_sound.proofs.alike.Given as goal

abbrev pub invariant-loop-v : goal.invariant-loop-v
invariant-loop-v l =
    (l.s ≡ size l.t (feature l.t l.i)) × (l.first ≡ goes (body l.t l.i) 0) × ((x : ℕ) → x < l.v → goes (body l.t l.i) x ≡ goes (body l.t l.i) 0) ×
    ((x : ℕ) → x < l.v → added (body l.t l.i) x ≡ bias)
