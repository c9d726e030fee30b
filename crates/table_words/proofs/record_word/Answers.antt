-- `table_words::record_word` meets its contract: it reads the word. Assumes nothing.
use Rattle.std.proofs.Common.{refl}
use Rattle.promises.specs.Words.{word}
use Rattle.table_words.proofs.record_word.Goals as goal

pub returns : goal.returns
unfolding word
returns c = refl
