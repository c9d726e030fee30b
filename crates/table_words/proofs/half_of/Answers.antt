-- `table_words::half_of` meets its contract: an even value has the low half. Assumes nothing.
use Rattle.std.proofs.Common.{sym}
use Rattle.table_words.proofs.Halves.{half_even, half_odd}
use Rattle.table_words.proofs.half_of.Goals as goal

pub returns-then-v-eq0 : goal.returns-then-v-eq0
returns-then-v-eq0 c = let a = c.args in sym (half_even a.x a.v c.if-v-eq0.true)

pub returns-else-v-eq0 : goal.returns-else-v-eq0
returns-else-v-eq0 c = let a = c.args in sym (half_odd a.x a.v c.if-v-eq0.false)
