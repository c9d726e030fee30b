-- The exact undo of a refused call: what was added, rolled back, leaves the words as they were. For every table that is regular. Assumes nothing.
use mathlib.Core.Path.{◌≡◌, sym, ap, ◌∙◌}
use mathlib.Core.Logic.{⊎_elim}
use mathlib.Core.List.{List}
use Prim.Native.Nat.{ℕ, ◌+◌, ◌-◌, ◌≤◌, ◌<◌}
use native.Mathlib.Omega.{arith}
use Rattle.theory.specs.Kind.{Kind}
use Rattle.theory.specs.Build.{Ext}
use Rattle.theory.specs.Diagrams.{Node, at}
use Rattle.theory.proofs.Growing.{ext_le}
use Rattle.theory.proofs.WellFormed.{at_more}
use Rattle.table_words.specs.Table.{Table, Regular, branches, node_at, nodes}
use Rattle.table_words.specs.Holding.{Holds, Grown}
use Rattle.table_words.proofs.Reading.{length_nodes, at_nodes, bodies_same}
use Rattle.table_words.proofs.Filling.{grown_ext}
use Rattle.table_words.proofs.Sparing.{spare_ext}
use Rattle.table_words.proofs.Tab.{same, split}
use Rattle.table_words.proofs.Words.{kept_size, kept_sizes}
use Rattle.table_records.specs.Changes.{Rolled}
use Rattle.table_records.specs.Nodes.{layout_of}
use Rattle.table_records.proofs.Making.{lawful}
use Rattle.table_records.proofs.Undoing.{undone}
use Rattle.promises.specs.Words.{size, sizes, count, word, feature, body}

module _ {K : Kind} {T : Table K} (L : Regular T) (w t : List ℕ) (N : List (Node K)) (ok : Holds (layout_of T) w) (g : Grown (layout_of T) w t N) (e : Ext (nodes T w) N) where
  x : Ext (nodes T w) (nodes T t)
  x = grown_ext (lawful T) w t N ok g e

  -- `roll_back` may be asked
  pub undo_asks : count w ≤ count t
  undo_asks = omega (arith, ext_le x, length_nodes T w, length_nodes T t)

  node_kept : (i : ℕ) → i < count w → node_at T t i ≡ node_at T w i
  node_kept i h =
      sym (at_nodes T t i (omega (arith, undo_asks))) ∙ ap (λ (M : List (Node K)). at M i) x.ends
      ∙ at_more (nodes T w) x.more i (omega (arith, length_nodes T w)) ∙ at_nodes T w i h

  feature_kept : (i : ℕ) → i < count w → feature t i ≡ feature w i
  feature_kept i h = ap (λ (y : Node K). y.feature) (node_kept i h)

  size_kept : (i : ℕ) → i < count w → size t (feature t i) ≡ size w (feature w i)
  size_kept i h = ap (size t) (feature_kept i h) ∙ kept_size w t g.kept ok.laid.laid.few (feature w i) (ok.laid.laid.tests i h)

  body_kept : (i : ℕ) → i < count w → (v : ℕ) → v < 12 → body t i v ≡ body w i v
  body_kept i h =
      bodies_same L (size w (feature w i)) (body t i) (body w i) (ok.laid.laid.large (feature w i) (ok.laid.laid.tests i h)).1
      (sym (ap (λ (m : ℕ). branches T m (body t i)) (size_kept i h)) ∙ ap (λ (y : Node K). y.branches) (node_kept i h))
      (rw (size_kept i h) at (g.well.laid.padded i (omega (arith, undo_asks))))
      (ok.laid.padded i h)

  -- a node's spare words are those that it has in the longer list
  spare_kept : (i j : ℕ) → i < count w → j < 2 → word t i (14 + j) ≡ word w i (14 + j)
  spare_kept i j h l =
      g.well.laid.spared i j (omega (arith, undo_asks)) l
      ∙ ap (λ (S : List ℕ). T.spare_of S (nodes T t) i j) (kept_sizes w t g.kept ok.laid.laid.few)
      ∙ sym (spare_ext L (sizes w) (nodes T w) (nodes T t) ok.wf x i j (omega (arith, length_nodes T w)))
      ∙ sym (ok.laid.spared i j h l)

  -- equal nodes have equal words
  words_kept : (i j : ℕ) → i < count w → j < 16 → (j ≡ 13 → ⊥) → word t i j ≡ word w i j
  words_kept i j h l n = ⊎_elim
      (λ z. rw z (feature_kept i h))
      (λ z. ⊎_elim
      (λ s. let q : 1 + (j - 1) ≡ j = omega (arith, z) in rw q at (body_kept i h (j - 1) (omega (arith, z))))
      (λ s. let q : 14 + (j - 14) ≡ j = omega (arith, n) in rw q at (spare_kept i (j - 14) h (omega arith)))
      (split j 13))
      (same j 0)

  -- THE EXACT UNDO
  pub undo : (t' : List ℕ) → Rolled t t' (count w) → t' ≡ w
  undo t' r = undone w t t' ok.laid.laid g.kept words_kept r
