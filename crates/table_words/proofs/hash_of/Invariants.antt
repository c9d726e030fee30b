-- `table_words::hash_of` meets its contract: the hash of the words passed, below 2^32. Assumes nothing.
use Rattle.std.proofs.Common.{◌<◌, ◌≡◌}
use Rattle.table_words.specs.Words.{listed}
use Rattle.promises.specs.Words.{hash_to}
use Rattle.table_words.proofs.hash_of.Given as goal

abbrev pub invariant-loop-x : goal.invariant-loop-x
invariant-loop-x l = (l.h ≡ hash_to l.k (listed l.x-items) l.x-index) × (l.h < 4294967296)
