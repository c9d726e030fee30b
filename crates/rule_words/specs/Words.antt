-- Contract between layers: the words that say branches of a rule table, and the code's branches. Assumes nothing.
use Rattle.std.specs.Prelude.{List, ℕ, ◌+◌, ◌<◌}
use Rattle.theory.specs.Diagrams as D
use Rattle.theory.specs.Rules.{rules, Branch}
use Rattle.rule_words.specs.declared.Branch.{Branch as CodeBranch}
use Rattle.rule_words.specs.declared.Branch.TheVariants.{Phrase, Node as NodeIs}
use Rattle.promises.specs.RuleWords.{decode}
use Rattle.promises.specs.Tab.{tab}

-- the word that says a branch
abbrev pub encode_to : D.Target rules → ℕ
encode_to (D.leaf p) = p
encode_to (D.node i) = 65536 + i

abbrev pub encode : Branch → ℕ
encode b = encode_to b.to

-- the branches that the first m words of a list say
abbrev pub branches : ℕ → (ℕ → ℕ) → List Branch
branches m f = tab (λ v. decode (f v)) m

-- where the code's branch goes, and the branch
abbrev pub target_of : CodeBranch → D.Target rules
target_of (Phrase p) = D.leaf p
target_of (NodeIs i) = D.node i

abbrev pub branch_of : CodeBranch → Branch
branch_of b = record { adds = tt; to = target_of b }

-- it has a word
abbrev pub Worded : CodeBranch → Type 0
Worded (Phrase p) = p < 65536
Worded (NodeIs i) = i < 65536
