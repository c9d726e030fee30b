-- The phrases that the words of a rule table say are below 65,536. Assumes nothing.
use mathlib.Core.Path.{◌≡◌, refl, sym, subst}
use mathlib.Core.Logic.{⊎_elim}
use mathlib.Core.List.{List}
use Prim.Native.Nat.{ℕ, ◌+◌, ◌≤◌, ◌<◌}
use native.Mathlib.Omega.{arith}
use lib.ListN.{get_or, get_or-eq_default}
use Rattle.theory.specs.Diagrams as D
use Rattle.theory.specs.Diagrams.{Target, at, blank, empty, meaning}
use Rattle.theory.specs.Functions.{zero_fun}
use Rattle.theory.specs.Rules.{rules, Branch, Node, Rule}
use Rattle.theory.proofs.Bounded.{Bounded, Bounds, value_bounded}
use Rattle.table_words.proofs.Reading.{branch_past}
use Rattle.table_words.proofs.Tab.{split, get_or_tab}
use Rattle.rule_words.specs.Words.{encode, encode_to}
use Rattle.rule_words.proofs.Reading.{decode_phrase, decode_node, decode_index, length_nodes, at_nodes, at_rules}
use Rattle.promises.specs.Words.{count, size, feature, body}
use Rattle.promises.specs.RuleWords.{decode, rule_node_list as nodes, rule_root as root, rule_of, rules_of}

pub decode_bounded : (x : ℕ) → Bounded 65536 (decode x).to
decode_bounded x = ⊎_elim (λ h. rw (decode_phrase x h) h) (λ h. rw (decode_node x h) tt) (split x 65536)

-- a branch whose phrase is so small is what its word says
pub decode_encode : (b : Branch) → Bounded 65536 b.to → decode (encode b) ≡ b
decode_encode b h = go b.to h
  where
    go : (t : Target rules) → Bounded 65536 t → decode (encode_to t) ≡ record { adds = tt; to = t }
    go (D.leaf p) l = decode_phrase p l
    go (D.node i) l = decode_index (65536 + i) i refl

pub nodes_bounded : (w : List ℕ) → Bounds 65536 (nodes w)
nodes_bounded w = record { node = λ i. record { branch = λ v. ⊎_elim (near i v) (far i v) (split i (count w)) } }
  where
    near : (i v : ℕ) → i < count w → Bounded 65536 (get_or (at (nodes w) i).branches v blank).to
    near i v h =
        subst (λ (x : Node). Bounded 65536 (get_or x.branches v blank).to) (sym (at_nodes w i h))
        (⊎_elim
        (λ l. rw (get_or_tab (λ u. decode (body w i u)) (size w (feature w i)) v blank l) (decode_bounded (body w i v)))
        (λ l. rw (branch_past (λ u. decode (body w i u)) (size w (feature w i)) v l) (omega arith))
        (split v (size w (feature w i))))

    far : (i v : ℕ) → count w ≤ i → Bounded 65536 (get_or (at (nodes w) i).branches v blank).to
    far i v h =
        let e : at (nodes w) i ≡ empty = get_or-eq_default (nodes w) empty (omega (arith, length_nodes w)) in
        subst (λ (x : Node). Bounded 65536 (get_or x.branches v blank).to) (sym e) (let q : 0 < 65536 = omega arith in q)

-- whatever the words are, each branch word and each rule give every setting a phrase below 65,536
pub branch_small : (w : List ℕ) (x : ℕ) (s : List ℕ) → (meaning (nodes w) (decode x) s).end < 65536
branch_small w x s = value_bounded 65536 (omega arith) (nodes w) (nodes_bounded w) 0 (decode x) s (decode_bounded x)

pub rule_small : (w : List ℕ) (p : ℕ) (s : List ℕ) → (rule_of w p s).end < 65536
rule_small w p s = branch_small w (root w p) s

pub rules_small : (w : List ℕ) (p : ℕ) → p < 32 → (s : List ℕ) → (get_or (rules_of w) p zero_fun s).end < 65536
rules_small w p h s = subst (λ (g : Rule). (g s).end < 65536) (sym (at_rules w p h)) (rule_small w p s)
