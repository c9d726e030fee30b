-- The feature lists of a sheet and of a table, size by size. Assumes nothing.
use mathlib.Core.Path.{◌≡◌, sym, ap, ◌∙◌}
use mathlib.Core.List.{List}
use Prim.Native.Nat.{ℕ, ◌<◌}
use native.Mathlib.Omega.{arith}
use lib.ListN.{length, get_or}
use lib.Seq.{ext_get_or}
use Rattle.promises.specs.Words as W
use Rattle.table_words.proofs.Words.{length_sizes, at_sizes}
use Rattle.sheet_bytes.specs.Frame.{Opens}
use Rattle.sheet_bytes.specs.RuleFrame.{rule_frame}
use Rattle.sheet_bytes.proofs.Opening.{open_length, open_at}
use Rattle.promises.specs.Sheet.{sheet_features as features, sheet_size as size, sheet_sizes as sizes_of}

module _ {s : List ℕ} (w : List ℕ) (h : Opens rule_frame s) where
  -- one list has one number of features
  pub many_same : sizes_of s ≡ W.sizes w → features s ≡ W.features w
  many_same e = sym (open_length h) ∙ ap length e ∙ length_sizes w

  -- and one size for each
  pub size_same : sizes_of s ≡ W.sizes w → (k : ℕ) → k < features s → size s k ≡ W.size w k
  size_same e k l = sym (open_at h k l) ∙ ap (λ (S : List ℕ). get_or S k 0) e ∙ at_sizes w k (omega (arith, many_same e))

  pub list_same : features s ≡ W.features w → ((k : ℕ) → k < features s → size s k ≡ W.size w k) → sizes_of s ≡ W.sizes w
  list_same e each =
      ext_get_or 0 (sizes_of s) (W.sizes w) (open_length h ∙ e ∙ sym (length_sizes w))
      (λ k l. let i : k < features s = omega (arith, open_length h) in open_at h k i ∙ each k i ∙ sym (at_sizes w k (omega arith)))
