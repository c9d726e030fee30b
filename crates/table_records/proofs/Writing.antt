-- What the stores of `push` and `pop` leave. Assumes nothing.
use mathlib.Core.Path.{◌≡◌, ap, ◌∙◌}
use mathlib.Core.List.{List}
use Prim.Native.Nat.{ℕ, zero, suc, ◌+◌, ◌*◌, ◌≤◌, ◌<◌}
use native.Mathlib.Omega.{arith}
use lib.ListN.{length, get_or, set, length-set}
use lib.Seq.{get_or-set_same, get_or-set_other}
use Rattle.table_words.specs.Words.{listed}
use Rattle.table_records.specs.Changes.{Pushed, Popped, pair_of}
use Rattle.promises.specs.Words.{word, head, count, hash_of, hash_at}

-- ---- push: t is w after the feature's store and the body's run; then the link, the chain head and the count are stored
module _ (w t l : List ℕ) (k k' i n' h nx x y : ℕ) (ei : i ≡ count w) (en : n' ≡ i + 1) (ek : k' ≡ k)
    (eh : h ≡ hash_of k (listed l)) (hh : h < 4096) (ex : nx ≡ head w (4096 + h))
    (room : 8192 + 16 * i + 16 ≤ length w)
    (len : length t ≡ length (set w (8192 + 16 * i) k'))
    (front : (j : ℕ) → j < 8192 + 16 * i + 1 → get_or t j 0 ≡ get_or (set w (8192 + 16 * i) k') j 0)
    (rest : (j : ℕ) → 8192 + 16 * i + 13 ≤ j → get_or t j 0 ≡ get_or (set w (8192 + 16 * i) k') j 0)
    (run : (u : ℕ) → u < 12 → get_or t (8192 + 16 * i + 1 + u) 0 ≡ get_or l u 0) where
  abbrev t₁ : List ℕ
  t₁ = set t (8192 + 16 * i + 13) nx

  -- the spare words are stored behind the link
  abbrev s₁ : List ℕ
  s₁ = set t₁ (8192 + 16 * i + 14) x

  abbrev s₂ : List ℕ
  s₂ = set s₁ (8192 + 16 * i + 15) y

  abbrev t₂ : List ℕ
  t₂ = set s₂ (4096 + h) n'

  abbrev t₃ : List ℕ
  t₃ = set t₂ 19 n'

  long : length t ≡ length w
  long = len ∙ length-set w (8192 + 16 * i) k'

  long₁ : length t₁ ≡ length w
  long₁ = length-set t (8192 + 16 * i + 13) nx ∙ long

  longs₁ : length s₁ ≡ length w
  longs₁ = length-set t₁ (8192 + 16 * i + 14) x ∙ long₁

  longs₂ : length s₂ ≡ length w
  longs₂ = length-set s₁ (8192 + 16 * i + 15) y ∙ longs₁

  long₂ : length t₂ ≡ length w
  long₂ = length-set s₂ (4096 + h) n' ∙ longs₂

  thru₃ : (j : ℕ) → (j ≡ 19 → ⊥) → (j ≡ 4096 + h → ⊥) → get_or t₃ j 0 ≡ get_or s₂ j 0
  thru₃ j a b = get_or-set_other t₂ 19 j n' 0 a ∙ get_or-set_other s₂ (4096 + h) j n' 0 b

  thru₂ : (j : ℕ) → (j ≡ 19 → ⊥) → (j ≡ 4096 + h → ⊥) → (j ≡ 8192 + 16 * i + 14 → ⊥) → (j ≡ 8192 + 16 * i + 15 → ⊥) → get_or t₃ j 0 ≡ get_or t₁ j 0
  thru₂ j a b c d = thru₃ j a b ∙ get_or-set_other s₁ (8192 + 16 * i + 15) j y 0 d ∙ get_or-set_other t₁ (8192 + 16 * i + 14) j x 0 c

  -- outside the words 13 to 15 of the record
  thru : (j : ℕ) → (j ≡ 19 → ⊥) → (j ≡ 4096 + h → ⊥) → (8192 + 16 * i + 13 ≤ j → j < 8192 + 16 * i + 16 → ⊥) → get_or t₃ j 0 ≡ get_or t j 0
  thru j a b d = thru₂ j a b (λ e. d (omega arith) (omega arith)) (λ e. d (omega arith) (omega arith)) ∙ get_or-set_other t (8192 + 16 * i + 13) j nx 0 (λ e. d (omega arith) (omega arith))

  spares : (j : ℕ) → j < 2 → get_or t₃ (8192 + 16 * i + (14 + j)) 0 ≡ pair_of x y j
  spares zero g =
      thru₃ (8192 + 16 * i + 14) (omega arith) (omega arith) ∙ get_or-set_other s₁ (8192 + 16 * i + 15) (8192 + 16 * i + 14) y 0 (omega arith)
      ∙ get_or-set_same t₁ (8192 + 16 * i + 14) x 0 (omega (arith, long₁))
  spares (suc zero) g = thru₃ (8192 + 16 * i + 15) (omega arith) (omega arith) ∙ get_or-set_same s₁ (8192 + 16 * i + 15) y 0 (omega (arith, longs₁))
  spares (suc (suc j)) g = absurd (omega arith)

  before : (j : ℕ) → j < 8192 + 16 * i → (j ≡ 19 → ⊥) → (j ≡ 4096 + h → ⊥) → get_or t₃ j 0 ≡ get_or w j 0
  before j l a b = thru j a b (λ c d. omega arith) ∙ front j (omega arith) ∙ get_or-set_other w (8192 + 16 * i) j k' 0 (omega arith)

  pub pushed : Pushed w t₃ k l x y
  unfolding word head
  pushed = record {
    long = length-set t₂ 19 n' ∙ long₂;
    header = λ j l a b. before j (omega arith) a (λ e. b (e ∙ ap (λ (x : ℕ). 4096 + x) eh));
    first = rw (← eh) (get_or-set_other t₂ 19 (4096 + h) n' 0 (omega arith) ∙ get_or-set_same s₂ (4096 + h) n' 0 (omega (arith, longs₂)) ∙ en ∙ ap (λ (x : ℕ). x + 1) ei);
    more = get_or-set_same t₂ 19 n' 0 (omega (arith, long₂)) ∙ en ∙ ap (λ (x : ℕ). x + 1) ei;
    old = λ j m l hm. before (8192 + 16 * j + m) (omega arith) (omega arith) (omega arith);
    feature =
        let e : 8192 + 16 * get_or w 19 0 + 0 ≡ 8192 + 16 * i = omega arith in
        rw e (thru (8192 + 16 * i) (omega arith) (omega arith) (λ c d. omega arith) ∙ front (8192 + 16 * i) (omega arith)
        ∙ get_or-set_same w (8192 + 16 * i) k' 0 (omega arith) ∙ ek);
    new = λ v l.
        let e : 8192 + 16 * get_or w 19 0 + (1 + v) ≡ 8192 + 16 * i + 1 + v = omega arith in
        rw e (thru (8192 + 16 * i + 1 + v) (omega arith) (omega arith) (λ c d. omega arith) ∙ run v l);
    next =
        let e : 8192 + 16 * get_or w 19 0 + 13 ≡ 8192 + 16 * i + 13 = omega arith in
        rw (e, ← eh) (thru₂ (8192 + 16 * i + 13) (omega arith) (omega arith) (omega arith) (omega arith) ∙ get_or-set_same t (8192 + 16 * i + 13) nx 0 (omega (arith, long)) ∙ ex);
    spare = λ j g. let e : 8192 + 16 * get_or w 19 0 + (14 + j) ≡ 8192 + 16 * i + (14 + j) = omega arith in rw e (spares j g);
    after = λ j l. thru j (omega arith) (omega arith) (λ c d. omega arith) ∙ rest j (omega arith) ∙ get_or-set_other w (8192 + 16 * i) j k' 0 (omega arith);
  }

-- ---- pop: t is w after the chain head's store and the run of zeros; then the count is stored
module _ (w t : List ℕ) (i n' h nx : ℕ) (en : n' ≡ i) (eh : h ≡ hash_at w i) (hh : h < 4096) (ex : nx ≡ word w i 13)
    (room : 8192 + 16 * i + 16 ≤ length w)
    (len : length t ≡ length (set w (4096 + h) nx))
    (front : (j : ℕ) → j < 8192 + 16 * i → get_or t j 0 ≡ get_or (set w (4096 + h) nx) j 0)
    (zeros : (j : ℕ) → 8192 + 16 * i ≤ j → j < 8192 + 16 * i + 16 → get_or t j 0 ≡ 0)
    (rest : (j : ℕ) → 8192 + 16 * i + 16 ≤ j → get_or t j 0 ≡ get_or (set w (4096 + h) nx) j 0) where
  long' : length t ≡ length w
  long' = len ∙ length-set w (4096 + h) nx

  pub popped : Popped w (set t 19 n') i
  unfolding word head
  popped = record {
    long = length-set t 19 n' ∙ long';
    header = λ j l a b. get_or-set_other t 19 j n' 0 a ∙ front j (omega arith) ∙ get_or-set_other w (4096 + h) j nx 0 (λ e. b (e ∙ ap (λ (x : ℕ). 4096 + x) eh));
    first = rw (← eh) (get_or-set_other t 19 (4096 + h) n' 0 (omega arith) ∙ front (4096 + h) (omega arith) ∙ get_or-set_same w (4096 + h) nx 0 (omega arith) ∙ ex);
    fewer = get_or-set_same t 19 n' 0 (omega (arith, long')) ∙ en;
    old = λ n j l hj. get_or-set_other t 19 (8192 + 16 * n + j) n' 0 (omega arith) ∙ front (8192 + 16 * n + j) (omega arith) ∙ get_or-set_other w (4096 + h) (8192 + 16 * n + j) nx 0 (omega arith);
    zero = λ j a b. get_or-set_other t 19 j n' 0 (omega arith) ∙ zeros j a b;
    after = λ j a. get_or-set_other t 19 j n' 0 (omega arith) ∙ rest j a ∙ get_or-set_other w (4096 + h) j nx 0 (omega arith);
  }
