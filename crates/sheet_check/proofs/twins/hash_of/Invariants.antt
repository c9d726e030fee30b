-- `sheet_check::twins::hash_of` meets its contract: the number is the hash of the branches passed. Assumes nothing.
use Rattle.std.proofs.Common.{◌<◌, ◌≡◌}
use Rattle.sheet_check.specs.Chains.{hash_to}
use Rattle.sheet_check.proofs.twins.hash_of.Given as goal

abbrev pub invariant-loop-v : goal.invariant-loop-v
invariant-loop-v l = record { hashed : l.h ≡ hash_to l.laid.bytes.now l.i l.v; small : l.h < 4294967296 }
