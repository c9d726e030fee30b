-- The laws of branch words: where one may stand, phrase numbers and what they mean, keys. Assumes nothing.
use mathlib.Core.Path.{◌≡◌, ap, ◌∙◌}
use mathlib.Core.Logic.{⊎_elim}
use mathlib.Core.List.{List}
use Prim.Native.Nat.{ℕ, ◌≤◌, ◌<◌}
use native.Mathlib.Omega.{arith}
use Rattle.theory.specs.Diagrams.{value}
use Rattle.theory.specs.Rules.{Branch, says}
use Rattle.theory.proofs.Values.{value_ending}
use Rattle.table_words.proofs.Tab.{split}
use Rattle.rule_words.proofs.Reading.{decode_phrase}
use Rattle.rule_inside.specs.Branches.{Lent, lent_out, lent, Number, number_in, Says, says_out, key_of}
use Rattle.rule_lending.specs.Lending.{keys}
use Rattle.rule_lending.proofs.Inside.{lent_count, lent_laid, lent_top, top_tests}
use Rattle.promises.specs.Words.{features}
use Rattle.promises.specs.RuleWords.{rule_node_list as nodes}

pub lent_up_to : {w : List ℕ} {k b : ℕ} → Lent w k b → k ≤ features w
lent_up_to p = (lent_out p).up_to

-- a branch that is no phrase number has a feature left
pub number_left : {w : List ℕ} {k b : ℕ} → Lent w k b → (Number b → ⊥) → k < features w
number_left {w} {k} {b} p n = ⊎_elim (λ l. absurd (n (number_in l))) (λ l. omega (arith, lent_top p, top_tests p l)) (split b 65536)

-- a phrase number gives every setting itself
pub says_means : {b n : ℕ} → Says b n → (w : List ℕ) (k : ℕ) (s : List ℕ) → lent w k b s ≡ says n
unfolding lent
says_means {b} q w k s = let o = says_out q in ap (λ (c : Branch). value (nodes w) k c s) (decode_phrase b o.0) ∙ value_ending (nodes w) k (says b) s ∙ ap says o.1

-- equal keys are of equal branches
pub key_one : (b c : ℕ) → key_of b ≡ key_of c → b ≡ c
unfolding key_of
key_one b c e = e

pub key_small : {w : List ℕ} {k b : ℕ} → Lent w k b → key_of b < keys
unfolding key_of
key_small p = let l = lent_laid p in omega (arith, lent_count p, l.within, l.most)
