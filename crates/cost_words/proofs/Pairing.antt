-- The pairs of a cost table: by their meaning, by the words that stand for it, by each node's branches; the pair of a new node. Assumes nothing.
use mathlib.Core.Bool.{Bool, true, false}
use mathlib.Core.Path.{◌≡◌, sym, ap, ◌∙◌}
use mathlib.Core.List.{List, [], ◌∷◌, ◌++◌}
use Prim.Native.Nat.{ℕ, zero, suc, ◌<◌}
use native.Mathlib.Nat.{le_refl}
use native.Mathlib.Omega.{arith}
use lib.IntN.{ℤ}
use lib.ListN.{length}
use lib.Seq.{get_or-append_seam}
use Rattle.theory.specs.Costs.{costs}
use Rattle.theory.specs.Diagrams.{Node, empty}
use Rattle.theory.specs.Settings.{Pos}
use Rattle.theory.specs.WellFormed.{WellFormed}
use Rattle.theory.proofs.WellFormed.{length_snoc}
use Rattle.theory_costs.specs.Integers.{word_for}
use Rattle.theory_costs.specs.Extremes.{Passed, own}
use Rattle.theory_costs.specs.Narrow.{Narrow}
use Rattle.theory_costs.proofs.Growing.{passed_longer}
use Rattle.theory_costs.proofs.Owning.{own_right, passed_sum, sum_passed, sum_fits}
use Rattle.theory_costs.proofs.Words.{int_word}
use Rattle.table_words.specs.Table.{Spared}
use Rattle.table_words.proofs.Reading.{length_nodes}
use Rattle.cost_words.specs.Table.{cost_table}
use Rattle.cost_words.specs.Words.{pair_word}
use Rattle.cost_words.proofs.Packing.{word_int}
use Rattle.cost_words.proofs.Summing.{way}
use Rattle.promises.specs.Integers.{int}
use Rattle.promises.specs.CostOperations.{smaller_of, larger_of}
use Rattle.promises.specs.Range.{add_most}
use Rattle.promises.specs.CostSound.{sum_below, kept, Pairs, side_of}
use Rattle.promises.specs.Words.{sizes, count, word}
use Rattle.promises.specs.CostWords.{cost_node_list as nodes}

-- right pairs are the spare words that the nodes decide
pub pairs_spared : (w : List ℕ) → Pairs w → Spared cost_table w
unfolding pair_word
pairs_spared w q i zero h g = sym (word_int (word w i 14)) ∙ ap word_for (q.pairs false i h)
pairs_spared w q i (suc zero) h g = sym (word_int (word w i 15)) ∙ ap word_for (q.pairs true i h)
pairs_spared w q i (suc (suc j)) h g = absurd (omega arith)

module _ (w : List ℕ) (p : Pos (sizes w)) (f : WellFormed (sizes w) (nodes w)) where
  -- each node's own, from its branches and what is kept for earlier nodes, is right, ..
  pub passed_pairs : ((up : Bool) → Passed (side_of up) (nodes w) (count w) (kept up w)) → Pairs w
  passed_pairs q = record { pairs = λ up i h. passed_sum (way up) (sizes w) p (nodes w) f (kept up w) (count w) (omega (arith, length_nodes cost_table w)) (q up) i h }

  -- .. and what is right is each node's own
  pub pairs_passed : Pairs w → (up : Bool) → Passed (side_of up) (nodes w) (length (nodes w)) (kept up w)
  pairs_passed q up = sum_passed (way up) (sizes w) p (nodes w) f (kept up w) (length (nodes w)) (le_refl _) (λ i h. q.pairs up i (omega (arith, length_nodes cost_table w)))

  -- the sums of a narrow list have their words
  below_word : (up : Bool) → Narrow add_most (sizes w) (nodes w) → (i : ℕ) → i < count w → int (word_for (sum_below (side_of up) (sizes w) (nodes w) i)) ≡ sum_below (side_of up) (sizes w) (nodes w) i
  below_word up nr i h =
      let g : ℕ → ℤ = (λ j. sum_below (side_of up) (sizes w) (nodes w) j) in
      let y = sum_fits (way up) (sizes w) p (nodes w) f g nr (sum_passed (way up) (sizes w) p (nodes w) f g (length (nodes w)) (le_refl _) (λ j l. λ k. g j)) i
      (omega (arith, length_nodes cost_table w)) in
      int_word (sum_below (side_of up) (sizes w) (nodes w) i) (omega (arith, y.bottom))

  side_right : Narrow add_most (sizes w) (nodes w) → Spared cost_table w → (up : Bool) (i : ℕ) → i < count w → kept up w i ≡ sum_below (side_of up) (sizes w) (nodes w) i
  unfolding pair_word
  side_right nr s true i h = ap int (s i 1 h (omega arith)) ∙ below_word true nr i h
  side_right nr s false i h = ap int (s i 0 h (omega arith)) ∙ below_word false nr i h

  -- so the spare words that the nodes decide are right pairs
  pub spared_pairs : Narrow add_most (sizes w) (nodes w) → Spared cost_table w → Pairs w
  spared_pairs nr s = record { pairs = side_right nr s }

-- ---- a new node: its pair is its own, from what is kept for the nodes that are there
module _ (S : List ℕ) (p : Pos S) (N : List (Node costs)) (x : Node costs) (f : WellFormed S (N ++ (x ∷ []))) (g : Bool → ℕ → ℤ) (q : (up : Bool) → Passed (side_of up) N (length N) (g up)) where
  new_below : (up : Bool) → sum_below (side_of up) S (N ++ (x ∷ [])) (length N) ≡ own (side_of up) (g up) x
  new_below up =
      own_right (way up) S p (N ++ (x ∷ [])) f (g up) (length N) (omega (arith, length_snoc N x)) (passed_longer (side_of up) N (x ∷ []) (length N) (g up) (le_refl _) (q up))
      ∙ ap (own (side_of up) (g up)) (get_or-append_seam N x [] empty)

  -- the words a and b of its lowest and highest are what its spare words must be
  pub new_pair : (a b : ℕ) → int a ≡ own smaller_of (g false) x → int b ≡ own larger_of (g true) x → (a ≡ pair_word S (N ++ (x ∷ [])) (length N) 0) × (b ≡ pair_word S (N ++ (x ∷ [])) (length N) 1)
  unfolding pair_word
  new_pair a b ea eb = (sym (word_int a) ∙ ap word_for (ea ∙ sym (new_below false)), sym (word_int b) ∙ ap word_for (eb ∙ sym (new_below true)))
