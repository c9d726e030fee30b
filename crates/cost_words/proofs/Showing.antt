-- With padded bodies the words show their nodes, and a node within bounds is what its body says. Assumes nothing.
use mathlib.Core.Path.{◌≡◌, sym, ap, ap₂, ◌∙◌}
use mathlib.Core.Logic.{⊎_elim}
use mathlib.Core.List.{List}
use Prim.Native.Nat.{ℕ, ◌+◌, ◌-◌, ◌≤◌, ◌<◌}
use native.Mathlib.Omega.{arith}
use borrow.Author.Tests.{lt-ltb, le-ltb}
use lib.ListN.{length, get_or}
use Rattle.theory.specs.Costs.{costs}
use Rattle.theory.specs.Diagrams.{Branch, Node, at, blank}
use Rattle.theory_costs.specs.Integers.{word_for}
use Rattle.table_words.proofs.Reading.{past_at}
use Rattle.table_words.proofs.Tab.{split, length_tab}
use Rattle.cost_words.specs.Table.{goes_of, added_of, body_of, root_of, cost_table}
use Rattle.cost_words.specs.Words.{target_word}
use Rattle.cost_words.proofs.Packing.{target_word_lem, word_int, word_branch, packed_self, packed_ext, packed_goes, packed_added}
use Rattle.cost_words.proofs.Reading.{at_nodes, branch_at_lem}
use Rattle.promises.specs.Integers.{fall, bias}
use Rattle.promises.specs.Words.{count, size, feature, body}
use Rattle.promises.specs.CostWords.{cost_branch as branch, goes, added, Padded, cost_node_list as nodes}

-- ---- the words of a node
pub added_in : (x : Node costs) (v : ℕ) → v < length x.branches → added_of x v ≡ word_for (get_or x.branches v blank).adds
added_in x v h = rw (lt-ltb v (length x.branches) h)

pub added_past : (x : Node costs) (v : ℕ) → length x.branches ≤ v → added_of x v ≡ 0
added_past x v h = rw (le-ltb v (length x.branches) h)

module _ (w : List ℕ) (padded : (i : ℕ) → i < count w → Padded (size w (feature w i)) (body w i)) where
  -- as many branches as its feature has values
  length_at : (i : ℕ) → i < count w → length (at (nodes w) i).branches ≡ size w (feature w i)
  length_at i h = ap (λ (x : Node costs). length x.branches) (at_nodes w i h) ∙ length_tab (cost_table.arm (body w i)) (size w (feature w i))

  goes_shows : (i v : ℕ) → i < count w → v < 8 → goes (body w i) v ≡ goes_of (at (nodes w) i) v
  goes_shows i v h hv = ⊎_elim
      (λ l. sym (target_word_lem (goes (body w i) v)) ∙ ap (λ (b : Branch costs). target_word b.to) (sym (branch_at_lem w i v h l)))
      (λ l. (padded i h).targets v l hv ∙ ap (λ (b : Branch costs). target_word b.to) (sym (past_at cost_table w i v h l)))
      (split v (size w (feature w i)))

  added_shows : (i v : ℕ) → i < count w → v < 8 → added (body w i) v ≡ added_of (at (nodes w) i) v
  added_shows i v h hv = ⊎_elim
      (λ l.
      sym (word_int (added (body w i) v)) ∙ ap (λ (b : Branch costs). word_for b.adds) (sym (branch_at_lem w i v h l))
      ∙ sym (added_in (at (nodes w) i) v (omega (arith, length_at i h))))
      (λ l. (padded i h).addeds v l hv ∙ sym (added_past (at (nodes w) i) v (omega (arith, length_at i h))))
      (split v (size w (feature w i)))

  pub body_shows : (i v : ℕ) → i < count w → v < 12 → body w i v ≡ body_of (at (nodes w) i) v
  body_shows i v h hv =
      packed_self (body w i) v hv
      ∙ packed_ext (goes (body w i)) (goes_of (at (nodes w) i)) (added (body w i)) (added_of (at (nodes w) i)) (λ u l. goes_shows i u h l) (λ u l. added_shows i u h l) v hv

-- ---- the words of a root and a base
pub root_shows : (R : List (Branch costs)) (p : ℕ) → p < 16 → root_of R p ≡ target_word (get_or R p blank).to
root_shows R p h = rw (lt-ltb p 16 h)

pub base_shows : (R : List (Branch costs)) (p : ℕ) → root_of R (16 + p) ≡ word_for (get_or R p blank).adds
base_shows R p =
    let e : 16 + p - 16 ≡ p = omega arith in
    let q : 16 ≤ 16 + p = omega arith in
    rw (le-ltb (16 + p) 16 q) (ap (λ (j : ℕ). word_for (get_or R j blank).adds) e)

-- ---- bounds under which a body says its node again
pub record Small (x : Node costs) : Type 0 where
  pub to : (v : ℕ) → v < 8 → goes_of x v < 65536
  pub adds : (v : ℕ) → v < length x.branches → fall (get_or x.branches v blank).adds ≤ bias

pub body_says : (x : Node costs) → Small x → (v : ℕ) → v < length x.branches → v < 8 → cost_table.arm (body_of x) v ≡ get_or x.branches v blank
body_says x s v h l =
    ap₂ branch (packed_goes (goes_of x) (added_of x) s.to v l) (packed_added (goes_of x) (added_of x) v ∙ added_in x v h)
    ∙ word_branch (get_or x.branches v blank) (s.adds v h)
