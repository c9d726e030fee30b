-- `cost_words::packed_word` meets its contract: two targets fit a word. Assumes nothing.
use Rattle.std.proofs.Common.{arith, sym}
use Rattle.cost_words.proofs.Packing.{packed_low, packed_high}
use Rattle.cost_words.specs.Words.{tos, adding}
use Rattle.cost_words.proofs.packed_word.Goals as goal

pub returns-then-v-lt4 : goal.returns-then-v-lt4
returns-then-v-lt4 c = let a = c.args in sym (packed_low (tos a.arms.now) (adding a.arms.now) a.v (omega arith))

pub returns-else-v-lt4 : goal.returns-else-v-lt4
returns-else-v-lt4 c = let a = c.args in sym (packed_high (tos a.arms.now) (adding a.arms.now) a.v (omega arith))
