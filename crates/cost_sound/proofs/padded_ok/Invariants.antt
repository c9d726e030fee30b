-- `cost_sound::padded_ok` meets its contract: the targets and added words passed are 0. Assumes nothing.
use Rattle.std.proofs.Common.{ℕ, ◌≤◌, ◌<◌, ◌≡◌}
use Rattle.promises.specs.CostWords.{goes, added}
use Rattle.promises.specs.Words.{body}
use Rattle.cost_sound.proofs.padded_ok.Given as goal

abbrev pub invariant-loop-v : goal.invariant-loop-v
invariant-loop-v l = ((x : ℕ) → l.s ≤ x → x < l.v → goes (body l.t l.i) x ≡ 0) × ((x : ℕ) → l.s ≤ x → x < l.v → added (body l.t l.i) x ≡ 0)
