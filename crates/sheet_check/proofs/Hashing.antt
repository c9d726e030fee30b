-- The hash of a node, and the chains of the nodes of one hash: the search along a chain, and one node more. Assumes nothing.
use mathlib.Core.Path.{◌≡◌, refl, sym, ap, subst, ◌∙◌}
use mathlib.Core.List.{List}
use Prim.Native.Nat.{ℕ, zero, suc, ◌+◌, ◌*◌, ◌-◌, ◌/◌, ◌%◌, ◌≤◌, ◌<◌}
use native.Mathlib.Numerals.{add-one}
use native.Mathlib.Decide.{dec_lt, ℕ_discrete}
use native.Mathlib.Omega.{arith}
use lib.ListN.{length, get_or, set, replicate}
use lib.Seq.{get_or-set_same, get_or-set_other}
use Rattle.sheet_check.specs.Chains.{hash_to, hash, Chain, Chained}
use Rattle.promises.specs.Sheet.{sheet_size as size, sheet_feature as feature, sheet_width as width, sheet_branch as branch, SheetSame as Same}

pub hash_zero : (s : List ℕ) (i : ℕ) → hash_to s i 0 ≡ feature s i
unfolding hash_to
hash_zero s i = refl

pub hash_next : (s : List ℕ) (i v : ℕ) → hash_to s i (v + 1) ≡ (hash_to s i v * 2654435761 + branch s i v) % 4294967296
unfolding hash_to
hash_next s i v = rw add-one

pub hash_all : (s : List ℕ) (i v : ℕ) → v ≡ width s i → hash_to s i v / 1048576 ≡ hash s i
unfolding hash
hash_all s i v e = ap (λ (u : ℕ). hash_to s i u / 1048576) e

same_to : (s : List ℕ) (i j v : ℕ) → Same s i j → v ≤ width s i → hash_to s i v ≡ hash_to s j v
unfolding hash_to
same_to s i j zero e h = e.feature
same_to s i j (suc v) e h = λ k. (same_to s i j v e (omega arith) k * 2654435761 + e.each v (omega arith) k) % 4294967296

same_hash : (s : List ℕ) (i j : ℕ) → Same s i j → hash s i ≡ hash s j
unfolding hash
same_hash s i j e = ap (λ (x : ℕ). x / 1048576) (same_to s i j (width s i) e (omega arith) ∙ ap (hash_to s j) (ap (size s) e.feature))

-- ---- where the search for a node equal to i stands: at the chain's word c, with no equal node from c on
pub record Searched (s : List ℕ) (i c : ℕ) : Type 0 where
  pub inside : c ≤ i
  pub hashed : 0 < c → hash s (c - 1) ≡ hash s i
  pub none : (j : ℕ) → c ≤ j → j < i → Same s j i → ⊥

pub search_start : {s heads links : List ℕ} {i : ℕ} → Chained s heads links i → (h c : ℕ) → h ≡ hash s i → h < 4096 → c ≡ get_or heads h 0 → Searched s i c
search_start {s} {heads} {links} {i} ch h c e l q =
    let b : Chain s h c i = subst (λ (x : ℕ). Chain s h x i) (sym q) (ch.buckets h l) in
    record { inside = b.within; hashed = λ p. b.hashed p ∙ e; none = λ j lo hi same. b.gap j lo hi (same_hash s j i same ∙ sym e) }

pub search_next : {s heads links : List ℕ} {i : ℕ} → Chained s heads links i → (c d : ℕ) → 0 < c → Searched s i c → (Same s (c - 1) i → ⊥) → d ≡ get_or links (c - 1) 0 → Searched s i d
search_next {s} {heads} {links} {i} ch c d p q miss ed =
    let b : Chain s (hash s (c - 1)) d (c - 1) = subst (λ (x : ℕ). Chain s (hash s (c - 1)) x (c - 1)) (sym ed) (ch.chain (c - 1) (omega (arith, q.inside))) in
    let e = q.hashed p in
    record { inside = omega (arith, b.within, q.inside); hashed = λ l. b.hashed l ∙ e; none = λ j lo hi is. none b e j lo hi is (dec_lt j c) }
  where
    none : (b : Chain s (hash s (c - 1)) d (c - 1)) → hash s (c - 1) ≡ hash s i → (j : ℕ) → d ≤ j → j < i → Same s j i → Dec (j < c) → ⊥
    none b e j lo hi is (no n) = q.none j (omega arith) hi is
    none b e j lo hi is (yes l) = last (ℕ_discrete j (c - 1))
      where
        last : Dec (j ≡ c - 1) → ⊥
        last (yes x) = miss (subst (λ (k : ℕ). Same s k i) x is)
        last (no x) = b.gap j lo (omega arith) (same_hash s j i is ∙ sym e)

-- the chain falls
pub search_less : {s heads links : List ℕ} {i : ℕ} → Chained s heads links i → (c d : ℕ) → 0 < c → Searched s i c → d ≡ get_or links (c - 1) 0 → d < c
search_less ch c d p q e = omega (arith, (ch.chain (c - 1) (omega (arith, q.inside))).within)

-- ---- one more node chained
zeros_of : (n h : ℕ) → ◌≡◌ {A = ℕ} (get_or (replicate n 0) h 0) 0
zeros_of zero h = refl
zeros_of (suc n) zero = refl
zeros_of (suc n) (suc h) = zeros_of n h

pub chained_none : (s links : List ℕ) → Chained s (replicate 4096 0) links 0
chained_none s links =
    record {
      buckets = λ h l. let z = zeros_of 4096 h in record { within = omega arith; hashed = λ p. absurd (omega arith); gap = λ j lo hi. absurd (omega arith) };
      chain = λ i l. absurd (omega arith);
    }

module _ {s heads links : List ℕ} {m : ℕ} (ch : Chained s heads links m) (h x y : ℕ) (eh : h ≡ hash s m) (ex : x ≡ get_or heads h 0) (ey : y ≡ m + 1)
    (small : h < 4096) (long : length heads ≡ 4096) (room : m < length links) where
  bucket : (g : ℕ) → g < 4096 → Dec (g ≡ h) → Chain s g (get_or (set heads h y) g 0) (m + 1)
  bucket g l (yes e) =
      let q : get_or (set heads h y) g 0 ≡ m + 1 = ap (λ (k : ℕ). get_or (set heads h y) k 0) e ∙ get_or-set_same heads h y 0 (omega arith) ∙ ey in
      rw q (record { within = omega arith; hashed = λ p. let d : m + 1 - 1 ≡ m = omega arith in rw d (sym eh ∙ sym e); gap = λ j lo hi. absurd (omega arith) })
  bucket g l (no n) =
      let q : get_or (set heads h y) g 0 ≡ get_or heads g 0 = get_or-set_other heads h g y 0 n in
      let b = ch.buckets g l in
      rw q (record { within = omega (arith, b.within); hashed = b.hashed; gap = λ j lo hi e. gap b j lo hi e (ℕ_discrete j m) })
    where
      gap : Chain s g (get_or heads g 0) m → (j : ℕ) → get_or heads g 0 ≤ j → j < m + 1 → hash s j ≡ g → Dec (j ≡ m) → ⊥
      gap b j lo hi e (yes d) = n (sym e ∙ ap (hash s) d ∙ sym eh)
      gap b j lo hi e (no d) = b.gap j lo (omega arith) e

  linked : (i : ℕ) → i < m + 1 → Dec (i ≡ m) → Chain s (hash s i) (get_or (set links m x) i 0) i
  linked i l (yes e) =
      let q : get_or (set links m x) i 0 ≡ get_or heads h 0 = ap (λ (k : ℕ). get_or (set links m x) k 0) e ∙ get_or-set_same links m x 0 room ∙ ex in
      let b : Chain s (hash s i) (get_or heads h 0) i = subst (λ (k : ℕ). Chain s (hash s k) (get_or heads h 0) k) (sym e) (subst (λ (g : ℕ). Chain s g (get_or heads h 0) m) eh (ch.buckets h small)) in
      rw q b
  linked i l (no n) =
      let q : get_or (set links m x) i 0 ≡ get_or links i 0 = get_or-set_other links m i x 0 n in
      rw q (ch.chain i (omega arith))

  pub chained_more : Chained s (set heads h y) (set links m x) (m + 1)
  chained_more = record { buckets = λ g l. bucket g l (ℕ_discrete g h); chain = λ i l. linked i l (ℕ_discrete i m) }
