-- What the stores of one copy leave. Assumes nothing.
use mathlib.Core.Path.{◌≡◌, sym, ap, ◌∙◌}
use mathlib.Core.List.{List}
use Prim.Native.Nat.{ℕ, zero, suc, ◌+◌, ◌-◌, ◌*◌, ◌/◌, ◌%◌, ◌≤◌, ◌<◌}
use native.Mathlib.Omega.{arith}
use lib.ListN.{length, get_or, set, length-set}
use lib.Seq.{get_or-set_same, get_or-set_other}
use Rattle.table_sweep.specs.Marks.{kept, done, mark}
use Rattle.table_sweep.specs.Sweeping.{Spare, Put}
use Rattle.table_sweep.specs.Collecting.{Steady, Firm}
use Rattle.table_sweep.proofs.Marking.{mark_link, mark_none, mark_same}
use Rattle.promises.specs.Words.{word, head, capacity, count}

-- the feature is written at base, the list behind it, then the spare words, the mark and the count
module _ (w t l : List ℕ) (base i k x y a b : ℕ) (eb : base ≡ 8192 + 16 * (capacity w + done w)) (ek : k ≡ word w i 0) (ea : a ≡ word w i 14) (eB : b ≡ word w i 15)
    (ex : x ≡ suc (done w)) (ey : y ≡ suc (done w)) (s : Spare w i)
    (len : length t ≡ length (set w base k))
    (front : (j : ℕ) → j < base + 1 → get_or t j 0 ≡ get_or (set w base k) j 0)
    (run : (u : ℕ) → u < 12 → get_or t (base + 1 + u) 0 ≡ get_or l u 0)
    (rest : (j : ℕ) → base + 13 ≤ j → get_or t j 0 ≡ get_or (set w base k) j 0) where
  abbrev s₁ : List ℕ
  s₁ = set t (base + 14) a

  abbrev s₂ : List ℕ
  s₂ = set s₁ (base + 15) b

  abbrev marked : List ℕ
  marked = set s₂ (8192 + 16 * i + 13) x

  abbrev out : List ℕ
  out = set marked 31 y

  long : length t ≡ length w
  long = len ∙ length-set w base k

  within : base + 16 ≤ length w
  within = omega (arith, s.room, s.free)

  longs : length s₂ ≡ length w
  longs = length-set s₁ (base + 15) b ∙ length-set t (base + 14) a ∙ long

  above : (j : ℕ) → (j ≡ 8192 + 16 * i + 13 → ⊥) → (j ≡ 31 → ⊥) → get_or out j 0 ≡ get_or s₂ j 0
  above j p q = get_or-set_other marked 31 j y 0 q ∙ get_or-set_other s₂ (8192 + 16 * i + 13) j x 0 p

  outside : (j : ℕ) → (j ≡ 8192 + 16 * i + 13 → ⊥) → (j ≡ 31 → ⊥) → (base + 14 ≤ j → j < base + 16 → ⊥) → get_or out j 0 ≡ get_or t j 0
  outside j p q n =
      above j p q ∙ get_or-set_other s₁ (base + 15) j b 0 (λ e. n (omega arith) (omega arith)) ∙ get_or-set_other t (base + 14) j a 0 (λ e. n (omega arith) (omega arith))

  spares : (j : ℕ) → j < 2 → get_or out (base + (14 + j)) 0 ≡ word w i (14 + j)
  spares zero g =
      above (base + 14) (omega (arith, s.there, s.most)) (omega arith) ∙ get_or-set_other s₁ (base + 15) (base + 14) b 0 (omega arith)
      ∙ get_or-set_same t (base + 14) a 0 (omega (arith, within, long)) ∙ ea
  spares (suc zero) g =
      above (base + 15) (omega (arith, s.there, s.most)) (omega arith) ∙ get_or-set_same s₁ (base + 15) b 0 (omega (arith, within, long, length-set t (base + 14) a)) ∙ eB
  spares (suc (suc j)) g = absurd (omega arith)

  before : (j : ℕ) → j < base → (j ≡ 8192 + 16 * i + 13 → ⊥) → (j ≡ 31 → ⊥) → get_or out j 0 ≡ get_or w j 0
  before j h p q = outside j p q (λ c d. omega arith) ∙ front j (omega arith) ∙ get_or-set_other w base j k 0 (omega arith)

  pub put : Put w out i l
  unfolding word head
  put =
      let lw = within in
      let lt = longs in
      let c : i < get_or w 1 0 = s.there in
      record {
        long = length-set marked 31 y ∙ length-set s₂ (8192 + 16 * i + 13) x ∙ longs;
        low = λ j h p. before j (omega arith) (omega arith) p;
        more = get_or-set_same marked 31 y 0 (omega (arith, length-set s₂ (8192 + 16 * i + 13) x)) ∙ ey;
        noted = get_or-set_other marked 31 (8192 + 16 * i + 13) y 0 (omega arith) ∙ get_or-set_same s₂ (8192 + 16 * i + 13) x 0 (omega arith) ∙ ex;
        near = λ n j hn hj q. before (8192 + 16 * n + j) (omega arith) (omega (arith, q)) (omega arith);
        old = λ n j hn hj. before (8192 + 16 * (get_or w 1 0 + n) + j) (omega arith) (omega arith) (omega arith);
        feature =
            let e : 8192 + 16 * (get_or w 1 0 + get_or w 31 0) + 0 ≡ base = omega arith in
            rw e (outside base (omega arith) (omega arith) (λ c d. omega arith) ∙ front base (omega arith) ∙ get_or-set_same w base k 0 (omega arith) ∙ ek);
        new = λ v h.
            let e : 8192 + 16 * (get_or w 1 0 + get_or w 31 0) + (1 + v) ≡ base + 1 + v = omega arith in
            rw e (outside (base + 1 + v) (omega arith) (omega arith) (λ c d. omega arith) ∙ run v h);
        spare = λ j g. let e : 8192 + 16 * (get_or w 1 0 + get_or w 31 0) + (14 + j) ≡ base + (14 + j) = omega arith in rw e (spares j g);
        after = λ j h. outside j (omega arith) (omega arith) (λ c d. omega arith) ∙ rest j (omega arith) ∙ get_or-set_other w base j k 0 (omega arith);
      }

-- one copy more: its node has a mark, and the other marks are kept
module _ {w w' : List ℕ} {i : ℕ} {l : List ℕ} (p : Put w w' i l) where
  pub put_stay : kept w' ≡ kept w
  put_stay = p.low 30 (omega arith) (omega arith)

  pub put_noted : mark w i ≡ 0 → mark w' i ≡ suc (done w)
  put_noted z = mark_link w' i (omega (arith, put_stay, mark_none w i z)) ∙ p.noted

  pub put_marks : (n : ℕ) → n < capacity w → (n ≡ i → ⊥) → mark w' n ≡ mark w n
  put_marks n h q = mark_same w w' put_stay n (λ g. p.near n 13 h (omega arith) (omega (arith, q)))

-- .. and the near records and the header
pub put_steady : {w w' : List ℕ} {i : ℕ} {l : List ℕ} → Spare w i → i < count w → count w ≤ capacity w → Put w w' i l → Steady w w'
unfolding word
put_steady {w} {w'} {i} s h g p =
    record {
      long = p.long;
      low = λ j hj. p.low j (omega arith) (omega arith);
      middle = λ j hj k. p.low j (omega arith) (omega arith);
      near = λ n j hn hj q. p.near n j hn hj (omega (arith, q));
      free = λ j hj k.
          let e : j ≡ 8192 + 16 * ((j - 8192) / 16) + (j - 8192) % 16 = omega arith in
          ap (λ (x : ℕ). get_or w' x 0) e ∙ p.near ((j - 8192) / 16) ((j - 8192) % 16) (omega arith) (omega arith) (omega arith) ∙ ap (λ (x : ℕ). get_or w x 0) (sym e);
      past = λ j hj. p.after j (omega (arith, s.free));
    }

pub put_firm : {w w' : List ℕ} {i : ℕ} {l : List ℕ} → Spare w i → mark w i ≡ 0 → Put w w' i l → Firm w w'
put_firm {w} {w'} {i} s z p =
    record {
      stay = put_stay p;
      heads = λ h g. p.low (4096 + h) (omega arith) (omega arith);
      links = λ n h. p.near n 13 (omega (arith, mark_none w i z, s.there)) (omega arith) (omega (arith, mark_none w i z));
    }
