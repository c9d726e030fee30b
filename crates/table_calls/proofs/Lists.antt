-- Feature lists are equal exactly if they are as long and equal size by size. Assumes nothing.
use mathlib.Core.Path.{◌≡◌, sym, ap, ◌∙◌}
use mathlib.Core.List.{List}
use Prim.Native.Nat.{ℕ, ◌<◌}
use lib.ListN.{length, get_or}
use Rattle.table_words.proofs.Tab.{tab_ext}
use Rattle.table_words.proofs.Words.{length_sizes, at_sizes}
use Rattle.promises.specs.Tab.{tab}
use Rattle.promises.specs.Words.{features, size, sizes}

module _ (w u : List ℕ) where
  pub lists_equal : features u ≡ features w → ((k : ℕ) → k < features w → size w k ≡ size u k) → sizes w ≡ sizes u
  unfolding sizes
  lists_equal e h = tab_ext (size w) (size u) (features w) h ∙ ap (tab (size u)) (sym e)

  pub as_long : sizes w ≡ sizes u → features u ≡ features w
  as_long q = sym (length_sizes u) ∙ ap length (sym q) ∙ length_sizes w

  pub as_large : sizes w ≡ sizes u → (k : ℕ) → k < features w → k < features u → size w k ≡ size u k
  as_large q k h g = sym (at_sizes w k h) ∙ ap (λ (l : List ℕ). get_or l k 0) q ∙ at_sizes u k g
