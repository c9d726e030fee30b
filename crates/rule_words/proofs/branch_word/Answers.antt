-- `rule_words::branch_word` meets its contract: a phrase is its own word, a node's word is 65,536 + its index, which fits. Assumes nothing.
use Rattle.std.proofs.Common.{refl}
use Rattle.rule_words.proofs.Reading.{word_phrase, word_node}
use Rattle.rule_words.proofs.branch_word.Goals as goal

pub returns-in-Phrase : goal.returns-in-Phrase
returns-in-Phrase c = word_phrase c.args.b _ c.in-Phrase.is c.requires

pub returns-in-Node : goal.returns-in-Node
returns-in-Node c = word_node c.args.b _ _ c.in-Node.is refl
