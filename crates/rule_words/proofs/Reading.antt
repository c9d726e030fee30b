-- Branch words decoded, and the node list and the rules by index. Assumes nothing.
use mathlib.Core.Path.{◌≡◌, sym, ap, subst, ◌∙◌}
use mathlib.Core.Logic.{⊎_elim}
use mathlib.Core.List.{List}
use Prim.Native.Nat.{ℕ, ◌+◌, ◌-◌, ◌≤◌, ◌<◌}
use native.Mathlib.Omega.{arith}
use borrow.Author.Tests.{lt-ltb, le-ltb}
use lib.ListN.{length, get_or}
use Rattle.theory.specs.Diagrams.{at, blank, leaf, node as to_node}
use Rattle.theory.specs.Functions.{zero_fun}
use Rattle.theory.specs.Rules.{Branch, phrase, node}
use Rattle.table_words.specs.Table.{node_at}
use Rattle.table_words.proofs.Reading as R
use Rattle.table_words.proofs.Tab.{split, length_tab, get_or_tab}
use Rattle.rule_words.specs.Table.{rule_table}
use Rattle.rule_words.specs.Words.{encode, branch_of, Worded}
use Rattle.rule_words.specs.declared.Branch.{Branch as CodeBranch}
use Rattle.rule_words.specs.declared.Branch.TheVariants.{Phrase, Node as NodeIs}
use Rattle.promises.specs.Words.{count, size, feature, body}
use Rattle.promises.specs.RuleWords.{decode, rule_node_list as nodes, rule_of, rules_of}

pub decode_phrase : (x : ℕ) → x < 65536 → decode x ≡ phrase x
unfolding decode
decode_phrase x h = rw (lt-ltb x 65536 h)

pub decode_node : (x : ℕ) → 65536 ≤ x → decode x ≡ node (x - 65536)
unfolding decode
decode_node x h = rw (le-ltb x 65536 h)

pub decode_index : (x i : ℕ) → x ≡ 65536 + i → decode x ≡ node i
decode_index x i e = decode_node x (omega arith) ∙ ap node (let q : x - 65536 ≡ i = omega arith in q)

pub encode_decode : (x : ℕ) → encode (decode x) ≡ x
encode_decode x = ⊎_elim
    (λ l. ap encode (decode_phrase x l))
    (λ l. ap encode (decode_node x l) ∙ (let e : 65536 + (x - 65536) ≡ x = omega arith in e))
    (split x 65536)

pub decode_inj : (x y : ℕ) → decode x ≡ decode y → x ≡ y
decode_inj x y e = sym (encode_decode x) ∙ ap encode e ∙ encode_decode y

-- ---- the code's branches
-- a phrase is its own word, a node's word is 65,536 + its index
pub word_phrase : (b : CodeBranch) (p : ℕ) → b ≡ Phrase p → Worded b → decode p ≡ branch_of b
word_phrase b p e h = let q : p < 65536 = subst (λ (x : CodeBranch). Worded x) e h in decode_phrase p q ∙ sym (ap branch_of e)

pub word_node : (b : CodeBranch) (i x : ℕ) → b ≡ NodeIs i → x ≡ 65536 + i → decode x ≡ branch_of b
word_node b i x e h = decode_index x i h ∙ sym (ap branch_of e)

pub node_fits : (b : CodeBranch) (i : ℕ) → b ≡ NodeIs i → Worded b → i < 65536
node_fits b i e h = subst (λ (x : CodeBranch). Worded x) e h

-- the branch of a small word has a word
pub word_again : (b : CodeBranch) (x : ℕ) → branch_of b ≡ decode x → x < 131072 → Worded b
word_again (Phrase p) x e h = ⊎_elim
    (λ l. let q : p ≡ x = ap encode e ∙ encode_decode x in omega (arith, q, l))
    (λ l. let q : leaf p ≡ to_node (x - 65536) = ap (λ (c : Branch). c.to) (e ∙ decode_node x l) in let z : ◌≡◌ {A = ℕ} 0 1 = cc in absurd (omega (arith, z)))
    (split x 65536)
word_again (NodeIs i) x e h = let q : 65536 + i ≡ x = ap encode e ∙ encode_decode x in omega (arith, q, h)

-- the node list
pub length_nodes : (w : List ℕ) → length (nodes w) ≡ count w
length_nodes w = R.length_nodes rule_table w

pub at_nodes : (w : List ℕ) (i : ℕ) → i < count w → at (nodes w) i ≡ node_at rule_table w i
at_nodes w i h = R.at_nodes rule_table w i h

-- branch v of node i
pub branch_at_lem : (w : List ℕ) (i v : ℕ) → i < count w → v < size w (feature w i) → get_or (at (nodes w) i).branches v blank ≡ decode (body w i v)
branch_at_lem w i v h hv = R.branch_at_lem rule_table w i v h hv

-- the rules
pub length_rules : (w : List ℕ) → length (rules_of w) ≡ 32
unfolding rules_of
length_rules w = length_tab (rule_of w) 32

pub at_rules : (w : List ℕ) (p : ℕ) → p < 32 → get_or (rules_of w) p zero_fun ≡ rule_of w p
unfolding rules_of
at_rules w p h = get_or_tab (rule_of w) 32 p zero_fun h
