-- What the words of a rule table say: its nodes, its roots, its rules. Assumes nothing.
use Rattle.std.specs.Prelude.{List, ℕ, ◌+◌, ◌-◌, ltb}
use Rattle.theory.specs.Diagrams.{Branch, Node, leaf, node, meaning}
use Rattle.theory.specs.Rules.{rules, Rule}
use Rattle.promises.specs.Tab.{tab}
use Rattle.promises.specs.Words.{head, nodes_by, pick}

-- the branch that a word says: a phrase number, or 65,536 + a node's index
unfoldable pub decode : ℕ → Branch rules
decode x = pick (ltb x 65536) (record { adds = tt; to = leaf x }) (record { adds = tt; to = node (x - 65536) })

-- a body has a word for each branch
abbrev pub rule_node_list : List ℕ → List (Node rules)
rule_node_list w = nodes_by (λ f v. decode (f v)) w

-- the root word of place p, and all 32 roots
abbrev pub rule_root : List ℕ → ℕ → ℕ
rule_root w p = head w (32 + p)

unfoldable pub rule_roots : List ℕ → List (Branch rules)
rule_roots w = tab (λ p. decode (rule_root w p)) 32

-- the rule of place p, and all 32 rules
abbrev pub rule_of : List ℕ → ℕ → Rule
rule_of w p = meaning (rule_node_list w) (decode (rule_root w p))

unfoldable pub rules_of : List ℕ → List Rule
rules_of w = tab (rule_of w) 32
