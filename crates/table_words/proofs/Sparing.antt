-- The spare words of nodes: of a longer list, of words that are the same. Assumes nothing.
use mathlib.Core.Path.{◌≡◌, sym, ap, ap₂, ◌∙◌}
use mathlib.Core.List.{List}
use Prim.Native.Nat.{ℕ, ◌+◌, ◌<◌}
use native.Mathlib.Nat.{le_refl}
use native.Mathlib.Omega.{arith}
use lib.ListN.{length}
use Rattle.theory.specs.Build.{Ext}
use Rattle.theory.specs.Copying.{Twin}
use Rattle.theory.specs.Diagrams.{Node, at, plain}
use Rattle.theory.specs.Kind.{Kind}
use Rattle.theory.specs.WellFormed.{WellFormed}
use Rattle.theory.proofs.Values.{value_ext}
use Rattle.theory.proofs.WellFormed.{at_ext, ok_ext}
use Rattle.table_words.specs.Table.{Table, Regular, Spared, nodes}
use Rattle.promises.specs.Words.{count, sizes, word}

-- a node means the same in a longer list
pub twin_ext : {K : Kind} (S : List ℕ) (N M : List (Node K)) → WellFormed S N → Ext N M → (i : ℕ) → i < length N → Twin S N M i i
twin_ext {K} S N M w e i h =
    record {
      alike = ap (λ (x : Node K). x.feature) (at_ext e i h);
      mean = record {
        ok = ok_ext N M (at N i).feature (plain i) e (h, le_refl _);
        says = λ s x. value_ext S N M (at N i).feature (plain i) s w e (h, le_refl _);
      };
    }

module _ {K : Kind} {T : Table K} (L : Regular T) where
  -- so its spare words are the same there
  pub spare_ext : (S : List ℕ) (N M : List (Node K)) → WellFormed S N → Ext N M → (i j : ℕ) → i < length N → T.spare_of S N i j ≡ T.spare_of S M i j
  spare_ext S N M w e i j h = L.spared S N M i i j (twin_ext S N M w e i h)

-- words that say the same sizes and nodes, and keep the spare words
pub spared_same : {K : Kind} (T : Table K) (w w' : List ℕ) → count w' ≡ count w → sizes w' ≡ sizes w → nodes T w' ≡ nodes T w →
    ((i j : ℕ) → i < count w → j < 2 → word w' i (14 + j) ≡ word w i (14 + j)) → Spared T w → Spared T w'
spared_same {K} T w w' n s e k h i j a b =
    k i j (omega arith) b ∙ h i j (omega arith) b ∙ sym (ap₂ (λ (S : List ℕ) (N : List (Node K)). T.spare_of S N i j) s e)
