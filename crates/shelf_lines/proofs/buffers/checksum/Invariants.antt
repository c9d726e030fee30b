-- `checksum` is safe. The invariant: the sum is below the modulus, so that the next product fits. Assumes nothing.
use Rattle.std.proofs.Common.{◌<◌}
use Rattle.shelf_lines.proofs.buffers.checksum.Given as goal

abbrev pub invariant-loop-word : goal.invariant-loop-word
invariant-loop-word l = l.sum < 17592186044399
