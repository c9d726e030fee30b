-- `table_words::body_of` meets its contract: the words passed stand in the list. Assumes nothing.
use Rattle.std.proofs.Common.{List, ℕ, get_or, ap, arith, ◌∙◌}
use Rattle.table_words.proofs.Words.{body_part}
use Rattle.table_words.proofs.body_of.Goals as goal

pub returns : goal.returns
returns c = λ v h. ap (λ (l : List ℕ). get_or l v 0) c.copy_from_slice.ensures.after ∙ body_part c.args.t.now c.args.i _ _ (omega arith) (omega arith) v h
