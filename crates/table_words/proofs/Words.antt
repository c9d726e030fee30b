-- Header, sizes and hashes of words that agree, and what a frame keeps. Assumes nothing.
use mathlib.Core.Path.{◌≡◌, refl, sym, ap, ap₂, ◌∙◌}
use mathlib.Core.Logic.{⊎_elim}
use mathlib.Core.List.{List}
use Prim.Native.Nat.{ℕ, zero, suc, ◌+◌, ◌*◌, ◌/◌, ◌%◌, ◌≤◌, ◌<◌}
use native.Mathlib.Nat.{mod-lt}
use native.Mathlib.Omega.{arith}
use lib.ListN.{length, get_or, take, drop, get_or-eq_default}
use lib.Seq.{get_or-take, get_or-drop}
use Rattle.theory.specs.Settings.{Pos}
use Rattle.theory.proofs.Lists.{pos_of}
use Rattle.table_words.specs.Words.{Kept}
use Rattle.table_words.proofs.Tab.{split, length_tab, get_or_tab, tab_ext}
use Rattle.promises.specs.Tab.{tab}
use Rattle.promises.specs.Words.{head, word, capacity, features, size, sizes, feature, body, hash_to, hash_of, hash_at, Zeros}

pub length_sizes : (w : List ℕ) → length (sizes w) ≡ features w
unfolding sizes
length_sizes w = length_tab (size w) (features w)

pub at_sizes : (w : List ℕ) (k : ℕ) → k < features w → get_or (sizes w) k 0 ≡ size w k
unfolding sizes
at_sizes w k h = get_or_tab (size w) (features w) k 0 h

-- the sixteen size words, 0 past the last size
pub sizes_show : (w : List ℕ) → Zeros w (3 + features w) 19 → (k : ℕ) → k < 16 → size w k ≡ get_or (sizes w) k 0
unfolding head
sizes_show w z k h = ⊎_elim
    (λ l. sym (at_sizes w k l))
    (λ l. z.zeros (3 + k) (omega arith) (omega arith) ∙ sym (get_or-eq_default (sizes w) 0 (omega (arith, length_sizes w))))
    (split k (features w))

pub pos_sizes : (w : List ℕ) → ((k : ℕ) → k < features w → 0 < size w k) → Pos (sizes w)
pos_sizes w h = pos_of (sizes w) (λ k l. let f : k < features w = omega (arith, length_sizes w) in omega (arith, at_sizes w k f, h k f))

-- ---- what a frame keeps
pub kept_features : (w w' : List ℕ) → Kept w w' → features w' ≡ features w
kept_features w w' k = k.header 2 (omega arith) (omega arith)

pub kept_capacity : (w w' : List ℕ) → Kept w w' → capacity w' ≡ capacity w
kept_capacity w w' k = k.header 1 (omega arith) (omega arith)

pub kept_size : (w w' : List ℕ) → Kept w w' → features w ≤ 16 → (k : ℕ) → k < features w → size w' k ≡ size w k
kept_size w w' p few k h = p.header (3 + k) (omega arith) (omega arith)

pub kept_sizes : (w w' : List ℕ) → Kept w w' → features w ≤ 16 → sizes w' ≡ sizes w
unfolding sizes
kept_sizes w w' k few = ap (tab (size w')) (kept_features w w' k) ∙ tab_ext (size w') (size w) (features w) (kept_size w w' k few)

pub kept_refl : (w : List ℕ) → Kept w w
kept_refl w = record { long = refl; header = λ j h n. refl; past = λ j h. refl }

pub kept_trans : (u v w : List ℕ) → Kept u v → Kept v w → Kept u w
kept_trans u v w p q =
    record {
      long = q.long ∙ p.long;
      header = λ j h n. q.header j h n ∙ p.header j h n;
      past = λ j h. q.past j (omega (arith, kept_capacity u v p)) ∙ p.past j h;
    }

-- ---- a record's body read at once
pub body_part : (w : List ℕ) (i n from : ℕ) → n ≡ 12 → from ≡ 8192 + 16 * i + 1 → (v : ℕ) → v < 12 → get_or (take n (drop from w)) v 0 ≡ body w i v
unfolding word
body_part w i n from e at v h = get_or-take n (drop from w) v 0 (omega arith) ∙ get_or-drop from w v 0 ∙ ap (λ (p : ℕ). get_or w p 0) (omega arith)

-- ---- hashes
hash_to_ext : (k : ℕ) (f g : ℕ → ℕ) (n : ℕ) → ((v : ℕ) → v < n → f v ≡ g v) → hash_to k f n ≡ hash_to k g n
unfolding hash_to
hash_to_ext k f g zero h = refl
hash_to_ext k f g (suc n) h = ap₂ (λ (a b : ℕ). (a * 2654435761 + b) % 4294967296) (hash_to_ext k f g n (λ v l. h v (omega arith))) (h n (omega arith))

pub hash_ext : (k : ℕ) (f g : ℕ → ℕ) → ((v : ℕ) → v < 12 → f v ≡ g v) → hash_of k f ≡ hash_of k g
unfolding hash_of
hash_ext k f g h = ap (λ (x : ℕ). x / 1048576) (hash_to_ext k f g 12 h)

pub hash_small : (k : ℕ) (f : ℕ → ℕ) → hash_of k f < 4096
unfolding hash_of hash_to
hash_small k f = let h : hash_to k f 12 < 4294967296 = mod-lt _ (omega arith) in omega arith

pub hash_at_ext : (w w' : List ℕ) (i : ℕ) → ((j : ℕ) → j < 13 → word w' i j ≡ word w i j) → hash_at w' i ≡ hash_at w i
hash_at_ext w w' i h =
    ap (λ (k : ℕ). hash_of k (body w' i)) (h 0 (omega arith)) ∙ hash_ext (feature w i) (body w' i) (body w i) (λ v l. h (1 + v) (omega arith))
