-- A sound cost table with one word of a pair changed is not sound. Assumes nothing.
use mathlib.Core.Path.{◌≡◌, sym, ap, ap₂, ◌∙◌}
use mathlib.Core.List.{List}
use Prim.Native.Nat.{ℕ, ◌+◌, ◌*◌, ◌<◌}
use native.Mathlib.Omega.{arith}
use lib.ListN.{set}
use lib.Seq.{get_or-set_same, get_or-set_other}
use Rattle.theory.specs.Costs.{costs}
use Rattle.theory.specs.Diagrams.{Node}
use Rattle.table_words.specs.Table.{node_at, nodes}
use Rattle.table_words.proofs.Reading.{node_is}
use Rattle.table_words.proofs.Tab.{tab_ext}
use Rattle.cost_words.specs.Table.{cost_table}
use Rattle.cost_words.specs.Words.{pair_word}
use Rattle.cost_words.proofs.Regular.{regular}
use Rattle.cost_words.proofs.Pairing.{pairs_spared}
use Rattle.promises.specs.Tab.{tab}
use Rattle.promises.specs.Words.{nodes_by, head, word, features, size, count, sizes, feature, body}
use Rattle.promises.specs.CostSound.{CostSound as Sound}

module _ (w : List ℕ) (s : Sound w) (i j x : ℕ) (hi : i < count w) (hj : j < 2) where
  -- the words with x in the place of spare word j of node i
  abbrev changed : List ℕ
  changed = set w (8192 + 16 * i + (14 + j)) x

  changed_head : (k : ℕ) → k < 8192 → head changed k ≡ head w k
  unfolding head
  changed_head k h = get_or-set_other w (8192 + 16 * i + (14 + j)) k x 0 (omega arith)

  -- features, bodies and links stay
  changed_record : (n v : ℕ) → v < 14 → word changed n v ≡ word w n v
  unfolding word
  changed_record n v h = get_or-set_other w (8192 + 16 * i + (14 + j)) (8192 + 16 * n + v) x 0 (omega arith)

  changed_spare : word changed i (14 + j) ≡ x
  unfolding word
  changed_spare = get_or-set_same w (8192 + 16 * i + (14 + j)) x 0 (omega (arith, s.header.room, s.header.within))

  changed_sizes : sizes changed ≡ sizes w
  unfolding sizes
  changed_sizes = ap (tab (size changed)) (changed_head 2 (omega arith)) ∙ tab_ext (size changed) (size w) (features w) (λ k h. changed_head (3 + k) (omega (arith, s.header.few)))

  changed_nodes : nodes cost_table changed ≡ nodes cost_table w
  unfolding nodes_by
  changed_nodes =
      ap (tab (node_at cost_table changed)) (changed_head 19 (omega arith))
      ∙ tab_ext (node_at cost_table changed) (node_at cost_table w) (count w)
      (λ n h. let k = (s.nodes_ok.each n h).known in
      node_is regular changed n (feature w n) (size w (feature w n)) (body w n) (changed_record n 0 (omega arith)) (changed_head (3 + feature w n) (omega (arith, s.header.few)))
      (s.header.fit.large (feature w n) k).1 (λ v b. changed_record n (1 + v) (omega arith)))

  -- THEOREM: every single-word change of a pair is DAMAGED
  pub pair_changed : (x ≡ word w i (14 + j) → ⊥) → Sound changed → ⊥
  pair_changed n z =
      n (sym changed_spare ∙ pairs_spared changed z.paired i j (omega (arith, changed_head 19 (omega arith))) hj
      ∙ ap₂ (λ (S : List ℕ) (N : List (Node costs)). pair_word S N i j) changed_sizes changed_nodes ∙ sym (pairs_spared w s.paired i j hi hj))
