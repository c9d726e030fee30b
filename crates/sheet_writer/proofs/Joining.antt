-- The bytes of branches and of nodes in turn: one more, and how many there are. Assumes nothing.
use mathlib.Core.Path.{◌≡◌, refl, sym, ap, ◌∙◌}
use mathlib.Core.List.{List, [], ◌∷◌, ◌++◌, append_assoc, append-nil}
use Prim.Native.Nat.{ℕ, suc, ◌+◌, ◌*◌}
use native.Mathlib.Omega.{arith}
use lib.ListN.{length, length-append}
use Rattle.theory.specs.Rules.{Branch, Node}
use Rattle.table_words.proofs.Tab.{tab_snoc}
use Rattle.sheet_bytes.specs.Sections.{branches_bytes, node_bytes, nodes_bytes}
use Rattle.sheet_bytes.specs.Sheet.{branch_bytes}
use Rattle.sheet_bytes.proofs.Places.{three}
use Rattle.promises.specs.Tab.{tab}

-- ---- the branches of a node
branches_append : (a b : List Branch) → branches_bytes branch_bytes (a ++ b) ≡ branches_bytes branch_bytes a ++ branches_bytes branch_bytes b
unfolding branches_bytes
branches_append [] b = refl
branches_append (x ∷ a) b =
    ap (λ (l : List ℕ). branch_bytes x ++ l) (branches_append a b) ∙ sym (append_assoc (branch_bytes x) (branches_bytes branch_bytes a) (branches_bytes branch_bytes b))

pub branches_snoc : (f : ℕ → Branch) (v : ℕ) → branches_bytes branch_bytes (tab f v) ++ branch_bytes (f v) ≡ branches_bytes branch_bytes (tab f (suc v))
unfolding branches_bytes
branches_snoc f v =
    ap (λ (l : List ℕ). branches_bytes branch_bytes (tab f v) ++ l) (sym (append-nil (branch_bytes (f v))))
    ∙ sym (branches_append (tab f v) (f v ∷ []))
    ∙ ap (branches_bytes branch_bytes) (sym (tab_snoc f v))

pub length_branches : (l : List Branch) → length (branches_bytes branch_bytes l) ≡ 3 * length l
unfolding branches_bytes
length_branches [] = refl
length_branches (b ∷ l) = omega (arith, length-append (branch_bytes b) (branches_bytes branch_bytes l), three b.to, length_branches l)

-- ---- nodes
nodes_append : (a b : List Node) → nodes_bytes branch_bytes (a ++ b) ≡ nodes_bytes branch_bytes a ++ nodes_bytes branch_bytes b
unfolding nodes_bytes
nodes_append [] b = refl
nodes_append (x ∷ a) b =
    ap (λ (l : List ℕ). node_bytes branch_bytes x ++ l) (nodes_append a b) ∙ sym (append_assoc (node_bytes branch_bytes x) (nodes_bytes branch_bytes a) (nodes_bytes branch_bytes b))

pub nodes_snoc : (f : ℕ → Node) (j : ℕ) → nodes_bytes branch_bytes (tab f j) ++ node_bytes branch_bytes (f j) ≡ nodes_bytes branch_bytes (tab f (suc j))
unfolding nodes_bytes
nodes_snoc f j =
    ap (λ (l : List ℕ). nodes_bytes branch_bytes (tab f j) ++ l) (sym (append-nil (node_bytes branch_bytes (f j))))
    ∙ sym (nodes_append (tab f j) (f j ∷ []))
    ∙ ap (nodes_bytes branch_bytes) (sym (tab_snoc f j))

pub length_node : (x : Node) → length (node_bytes branch_bytes x) ≡ 1 + 3 * length x.branches
unfolding node_bytes
length_node x = omega (arith, length_branches x.branches)
