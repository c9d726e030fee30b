-- `table_words::header::size_word` meets its contract: it reads the word. Assumes nothing.
use Rattle.std.proofs.Common.{refl}
use Rattle.promises.specs.Words.{head}
use Rattle.table_words.proofs.header.size_word.Goals as goal

pub returns : goal.returns
unfolding head
returns c = refl
