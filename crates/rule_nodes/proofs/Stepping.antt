-- Tops, and steps down a diagram. Assumes nothing.
use mathlib.Core.Path.{◌≡◌, sym, ap, subst, ◌∙◌}
use mathlib.Core.Logic.{⊎_elim}
use mathlib.Core.List.{List}
use Prim.Native.Nat.{ℕ, suc, ◌+◌, ◌-◌, ◌≤◌, ◌<◌}
use native.Mathlib.Numerals.{add-one}
use native.Mathlib.Omega.{arith}
use borrow.Author.Tests.{lt-ltb, le-ltb}
use Rattle.theory.specs.Build.{Ext}
use Rattle.theory.specs.Diagrams.{at, next}
use Rattle.theory.specs.Rules.{Branch, Node, node}
use Rattle.theory.specs.WellFormed.{Ok}
use Rattle.theory.proofs.Values.{next_here, next_wait, next_ok}
use Rattle.theory.proofs.WellFormed.{ok_ext}
use Rattle.table_words.specs.Words.{Kept}
use Rattle.table_words.proofs.Tab.{split}
use Rattle.table_words.proofs.Words.{kept_features}
use Rattle.rule_words.proofs.Reading.{decode_phrase, decode_node, length_nodes, at_nodes, branch_at_lem}
use Rattle.rule_nodes.specs.Nodes.{Holds, Good, top, Place}
use Rattle.rule_nodes.proofs.Reading.{good_small}
use Rattle.promises.specs.Words.{features, size, sizes, count, feature, body}
use Rattle.promises.specs.RuleWords.{decode, rule_node_list as nodes}

-- ---- tops
pub top_phrase : (w : List ℕ) (b : ℕ) → b < 65536 → top w b ≡ features w
unfolding top
top_phrase w b h = rw (lt-ltb b 65536 h)

pub top_node : (w : List ℕ) (b : ℕ) → 65536 ≤ b → top w b ≡ feature w (b - 65536)
unfolding top
top_node w b h = rw (le-ltb b 65536 h)

-- what tests a feature is a node
pub is_node : (w : List ℕ) (b : ℕ) → top w b < features w → 65536 ≤ b
is_node w b h = ⊎_elim (λ l. absurd (omega (arith, top_phrase w b l))) (λ l. l) (split b 65536)

node_feature : (w : List ℕ) (b : ℕ) → 65536 ≤ b → b < 65536 + count w → (at (nodes w) (b - 65536)).feature ≡ top w b
node_feature w b h l = ap (λ (x : Node). x.feature) (at_nodes w (b - 65536) (omega arith)) ∙ sym (top_node w b h)

-- a branch word is good for the features up to its top
pub good_top : (w : List ℕ) (k b : ℕ) → Good w k b → k ≤ features w → k ≤ top w b
good_top w k b g h = ⊎_elim
    (λ l. omega (arith, top_phrase w b l))
    (λ l.
    let o : Ok (nodes w) k (node (b - 65536)) = subst (Ok (nodes w) k) (decode_node b l) g in
    omega (arith, o.1, node_feature w b l (good_small w k b g)))
    (split b 65536)

pub top_good : (w : List ℕ) (k b : ℕ) → b < 65536 + count w → k ≤ top w b → Good w k b
top_good w k b s h = ⊎_elim
    (λ l. rw (decode_phrase b l) tt)
    (λ l. rw (decode_node b l) (omega (arith, length_nodes w), omega (arith, node_feature w b l s)))
    (split b 65536)

-- ---- branches
-- a node of feature k goes to its branch
pub child_here : (w : List ℕ) (k b v : ℕ) → Place w k b → k < features w → v < size w k → top w b ≡ k → decode (body w (b - 65536) v) ≡ next (nodes w) k (decode b) v
child_here w k b v p hk hv e =
    let n : 65536 ≤ b = is_node w b (omega arith) in
    let s : b < 65536 + count w = good_small w k b p.good in
    let f : feature w (b - 65536) ≡ k = sym (top_node w b n) ∙ e in
    let z : size w (feature w (b - 65536)) ≡ size w k = ap (size w) f in
    sym (ap (λ (c : Branch). next (nodes w) k c v) (decode_node b n)
    ∙ next_here (nodes w) k (b - 65536) v tt (node_feature w b n s ∙ e)
    ∙ branch_at_lem w (b - 65536) v (omega arith) (omega arith))

-- any other branch waits
pub child_skip : (w : List ℕ) (k b v : ℕ) → Place w k b → (top w b ≡ k → ⊥) → decode b ≡ next (nodes w) k (decode b) v
child_skip w k b v p ne =
    sym (next_wait (nodes w) k (decode b) v (top_good w (suc k) b (good_small w k b p.good) (omega (arith, good_top w k b p.good p.up_to, ne))))

pub good_next : (w : List ℕ) (k b v c : ℕ) → Place w k b → decode c ≡ next (nodes w) k (decode b) v → Good w (suc k) c
good_next w k b v c p e = rw e (next_ok (sizes w) (nodes w) p.holds.wf k (decode b) v p.good)

-- ---- places
pub place_next : (w : List ℕ) (k b v c : ℕ) → Place w k b → k < features w → decode c ≡ next (nodes w) k (decode b) v → Place w (k + 1) c
place_next w k b v c p h e = record { holds = p.holds; good = rw add-one (good_next w k b v c p e); up_to = omega arith }

pub place_skip : (w : List ℕ) (k b : ℕ) → Place w k b → k < top w b → k < features w → Place w (k + 1) b
place_skip w k b p h l = record { holds = p.holds; good = top_good w (k + 1) b (good_small w k b p.good) (omega arith); up_to = omega arith }

-- a place of w, seen in a table that holds more
pub place_ext : (w t : List ℕ) (k b : ℕ) → Place w k b → Kept w t → Holds t → Ext (nodes w) (nodes t) → Place t k b
place_ext w t k b p kp h e =
    record { holds = h; good = ok_ext (nodes w) (nodes t) k (decode b) e p.good; up_to = omega (arith, p.up_to, kept_features w t kp) }
