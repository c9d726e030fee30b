-- Results that are there already: a phrase; what a call told; and they stay there when a node is made. Assumes nothing.
use Rattle.std.specs.Prelude.{Option, Some}
use mathlib.Core.Path.{◌≡◌, sym, ap, ◌∙◌}
use mathlib.Core.List.{List}
use Prim.Native.Nat.{ℕ, ◌<◌}
use Rattle.theory.specs.Build.{Ext}
use Rattle.theory.specs.Diagrams.{value}
use Rattle.theory.specs.Rules.{Branch, Rule, says}
use Rattle.theory.proofs.Growing.{make_grows}
use Rattle.theory.proofs.Rules.{value_phrase}
use Rattle.theory.proofs.Values.{mean_more}
use Rattle.table_words.specs.Words.{listed}
use Rattle.table_words.proofs.Filling.{grown_nodes}
use Rattle.table_words.proofs.Words.{kept_sizes}
use Rattle.rule_words.specs.Words.{branches}
use Rattle.rule_words.proofs.Reading.{decode_phrase}
use Rattle.rule_nodes.specs.Nodes.{Holds, Makes, Result}
use Rattle.rule_nodes.proofs.Reading.{lawful}
use Rattle.rule_nodes.proofs.Filling.{gives_is, result_there, built_there, result_mean, mean_result}
use Rattle.promises.specs.Words.{size, sizes}
use Rattle.promises.specs.RuleWords.{rule_node_list as nodes}

-- a rule that gives one number everywhere is that phrase
pub result_phrase : (w : List ℕ) (k x : ℕ) (g : Rule) → Holds w → x < 65536 → ((s : List ℕ) → g s ≡ says x) → Result w w k g (Some x)
result_phrase w k x g ok h e =
    result_there w k x g ok
    (built_there w k x g ok (rw (decode_phrase x h) tt) (λ s. ap (λ (b : Branch). value (nodes w) k b s) (decode_phrase x h) ∙ value_phrase (nodes w) k x s ∙ sym (e s)))

-- what a call told is there afterwards
pub result_again : (w t : List ℕ) (k : ℕ) (g : Rule) (x : ℕ) → Holds w → Result w t k g (Some x) → Result t t k g (Some x)
result_again w t k g x ok r = mean_result t k g x r.grown.well (rw (kept_sizes w t r.grown.kept ok.laid.laid.few) (result_mean w t k g x ok r))

-- what is there stays there when a node is made
pub makes_again : (w t : List ℕ) (j : ℕ) (l : List ℕ) (a : Option ℕ) (y k : ℕ) (g : Rule) (x : ℕ) → Holds w → Makes w t j l a → a ≡ Some y → Result w w k g (Some x) → Result t t k g (Some x)
makes_again w t j l a y k g x ok m e r =
    let q = gives_is e m in
    let n : Ext (nodes w) (nodes t) = rw (grown_nodes lawful w t _ q.grown q.answers.1) (make_grows j (branches (size w j) (listed l)) (nodes w)) in
    mean_result t k g x q.grown.well (rw (kept_sizes w t q.grown.kept ok.laid.laid.few) (mean_more (sizes w) ok.wf n (result_mean w w k g x ok r)))
