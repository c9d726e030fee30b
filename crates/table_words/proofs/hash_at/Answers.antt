-- `table_words::hash_at` meets its contract: the body that was read is the record's. Assumes nothing.
use Rattle.std.proofs.Common.{get_or, ℕ, ap}
use Rattle.table_words.proofs.Words.{hash_ext}
use mathlib.Core.Path.{◌∙◌}
use Rattle.promises.specs.Words.{hash_of}
use Rattle.table_words.proofs.hash_at.Goals as goal

pub returns : goal.returns
returns c = (
  c.hash_of.ensures.0 ∙ ap (λ (k : ℕ). hash_of k (λ v. get_or c.body_of.result v 0)) c.record_word.ensures ∙ hash_ext _ _ _ c.body_of.ensures,
  c.hash_of.ensures.1,
)
