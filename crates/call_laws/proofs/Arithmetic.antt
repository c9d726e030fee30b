-- THE LAWS OF COST ARITHMETIC over calls on one table: none is refused, the results stand in places that are none of the sources, and
-- meanwhile the named places hold what they held; then two results have one root word and one base word. Assumes nothing.
use mathlib.Core.Path.{◌≡◌, refl}
use mathlib.Core.List.{List, [], ◌∷◌, ◌++◌}
use Prim.Native.Nat.{ℕ, ◌<◌}
use native.Mathlib.Omega.{arith}
use lib.IntN.{ℤ}
use Rattle.theory.specs.Functions.{Agree}
use Rattle.theory.specs.Costs.{Cost}
use Rattle.settings.specs.Refusals.{Outcome}
use Rattle.settings.specs.Refusals.{Taken}
use Rattle.promises.specs.Deed.{Deed, Meets}
use Rattle.promises.specs.Table.{puts, state_of, table}
use Rattle.promises.specs.CostDeeds as D
use Rattle.promises.specs.CostDeeds.{cost_looked, costed, add, subtract, scale}
use Rattle.table_calls.proofs.Like.{clear, rest}
use Rattle.cost_calls.proofs.Edge.{drawn}
use Rattle.call_laws.specs.Standing.{Among, first, later, Apart, Next}
use Rattle.call_laws.specs.Formulas.{Still, InTurn, One, Formula, given_formula, said_by, Worked, source, stays, added, subtracted, smaller, scaled}
use Rattle.call_laws.proofs.Among.{other, at0, at1, at2, at3, at4, at5, at6, at7}
use Rattle.call_laws.proofs.Standing.{there, next_stands}
use Rattle.call_laws.proofs.Formulas.{one_formula}
use Rattle.call_laws.proofs.Identities.{sum_order, sum_grouping, sum_undone, smaller_sums, scaled_sum}
use Rattle.promises.specs.Words.{sizes}
use Rattle.promises.specs.CostWords.{cost_of}
use Rattle.promises.specs.CostSound.{CostSound as Sound}

-- ---- places of lists
-- all of them are places of a cost table
abbrev Below : List ℕ → Type 0
Below [] = Unit {0}
Below (p ∷ l) = (p < 16) × Below l

below : {r : ℕ} (l : List ℕ) → Among r l → Below l → r < 16
below {r = r} [] x h = elim x [ ]
below (p ∷ l) (first e) h = omega (arith, h.0, e)
below (p ∷ l) (later m) h = below l m h.1

in_front : {r : ℕ} {k : List ℕ} (l : List ℕ) → Among r k → Among r (k ++ l)
in_front l (first e) = first e
in_front l (later m) = later (in_front l m)

-- ---- one call of a law: what it finds, and what it leaves where it does not write
module _ {l : List ℕ} {Call : List ℕ → List ℕ → Outcome → Type 0} {w v : List ℕ} (t : Next cost_of Sound l Call w v) where
  found : {r : ℕ} {x : Formula} → Among r l → Worked w r x → Worked t.found r x
  found {r} m i = stays i (t.still r m)

  kept : {d : Deed (table costed)} {o : d.Result} {p r : ℕ} {g : Cost} {x : Formula} → d.writes (state_of costed t.found) ≡ puts p g → Meets d t.found v o
      → d.ending o ≡ Taken → Among r l → r < 16 → (r ≡ p → ⊥) →
      Worked w r x → Worked v r x
  kept {d} e c k m h n i = stays i (next_stands cost_looked drawn {d = d} t e c k m h n)

-- the sources k: they are places, and in the words w they hold the costs f
abbrev Sources : List ℕ → (ℕ → Cost) → List ℕ → Type 0
Sources k f w = (r : ℕ) → Among r k → (r < 16) × Worked w r (given_formula (f r))

begun : (k w : List ℕ) → Below k → Sources k (cost_of w) w
begun k w h r m = (below k m h, source w r)

-- so do they after a call that writes one of the results l
past : {k l : List ℕ} {Call : List ℕ → List ℕ → Outcome → Type 0} {w v : List ℕ} {d : Deed (table costed)} {o : d.Result} {p : ℕ} {g : Cost} {f : ℕ → Cost} →
    Apart l k → (t : Next cost_of Sound (k ++ l) Call w v) → d.writes (state_of costed t.found) ≡ puts p g → Meets d t.found v o → d.ending o ≡ Taken → Among p l → Sources k f w → Sources k f v
past {l = l} {d = d} a t e c y m s r n = let i = s r n in (i.0, kept t {d = d} e c y (in_front l n) i.0 (other a n m) i.1)

-- the end of a law
agreed : {l w v : List ℕ} {p q : ℕ} {x y : Formula} → ((r : ℕ) → Among r l → Still r w v) → Among p l → Among q l → p < 16 → q < 16 → Worked w p x → Worked w q y
    → Agree (sizes v) (said_by x) (said_by y) → One v p q
agreed {p = p} {q = q} k m n hp hq i j e = one_formula p q (k p m).sound hp hq (stays i (k p m)) (stays j (k q n)) e

-- ---- ADD IN EITHER ORDER: A + B into place p, B + A into place q
module _ {a b p q : ℕ} where
  pub add_either_order : {w v : List ℕ} → Apart (p ∷ q ∷ []) (a ∷ b ∷ []) → (q ≡ p → ⊥) →
      InTurn (a ∷ b ∷ p ∷ q ∷ []) (Meets (add p a b) ∷ Meets (add q b a) ∷ []) w v → One v p q
  add_either_order {w} d n (u₁, t₁, (u₂, t₂, z)) =
      let h₁ = there (clear (rest t₁.taken.ends)) in
      let h₂ = there (clear (rest t₂.taken.ends)) in
      let s₀ = begun (a ∷ b ∷ []) w (h₁ 1 (omega arith), (h₁ 2 (omega arith), tt)) in
      let s₁ = past d t₁ refl t₁.taken refl at0 s₀ in
      let P₁ = added (found t₁ at0 (s₀ a at0).1) (found t₁ at1 (s₀ b at1).1) t₁.taken in
      let P₂ = kept t₂ refl t₂.taken refl at2 (h₁ 0 (omega arith)) (λ e. omega (arith, e, n)) P₁ in
      let Q₂ = added (found t₂ at1 (s₁ b at1).1) (found t₂ at0 (s₁ a at0).1) t₂.taken in
      agreed z at2 at3 (h₁ 0 (omega arith)) (h₂ 0 (omega arith)) P₂ Q₂ (λ s v. sum_order (cost_of w a) (cost_of w b) s)

-- ---- ADD IN EITHER GROUPING: (A + B) + C into place p by place m, A + (B + C) into place q by place n
module _ {a b c m p n q : ℕ} where
  pub add_either_grouping : {w v : List ℕ} → Apart (m ∷ p ∷ n ∷ q ∷ []) (a ∷ b ∷ c ∷ []) → (n ≡ p → ⊥) → (q ≡ p → ⊥) →
      InTurn (a ∷ b ∷ c ∷ m ∷ p ∷ n ∷ q ∷ []) (Meets (add m a b) ∷ Meets (add p m c) ∷ Meets (add n b c) ∷ Meets (add q a n) ∷ []) w v → One v p q
  add_either_grouping {w} d np qp (u₁, t₁, (u₂, t₂, (u₃, t₃, (u₄, t₄, z)))) =
      let h₁ = there (clear (rest t₁.taken.ends)) in
      let h₂ = there (clear (rest t₂.taken.ends)) in
      let h₄ = there (clear (rest t₄.taken.ends)) in
      let s₀ = begun (a ∷ b ∷ c ∷ []) w (h₁ 1 (omega arith), (h₁ 2 (omega arith), (h₂ 2 (omega arith), tt))) in
      let s₁ = past d t₁ refl t₁.taken refl at0 s₀ in
      let s₂ = past d t₂ refl t₂.taken refl at1 s₁ in
      let s₃ = past d t₃ refl t₃.taken refl at2 s₂ in
      let M₁ = added (found t₁ at0 (s₀ a at0).1) (found t₁ at1 (s₀ b at1).1) t₁.taken in
      let P₂ = added (found t₂ at3 M₁) (found t₂ at2 (s₁ c at2).1) t₂.taken in
      let P₃ = kept t₃ refl t₃.taken refl at4 (h₂ 0 (omega arith)) (λ e. omega (arith, e, np)) P₂ in
      let N₃ = added (found t₃ at1 (s₂ b at1).1) (found t₃ at2 (s₂ c at2).1) t₃.taken in
      let P₄ = kept t₄ refl t₄.taken refl at4 (h₂ 0 (omega arith)) (λ e. omega (arith, e, qp)) P₃ in
      let Q₄ = added (found t₄ at0 (s₃ a at0).1) (found t₄ at5 N₃) t₄.taken in
      agreed z at4 at6 (h₂ 0 (omega arith)) (h₄ 0 (omega arith)) P₄ Q₄ (λ s v. sum_grouping (cost_of w a) (cost_of w b) s (cost_of w c))

-- ---- ADD, THEN SUBTRACT THE SAME COST: (A + B) − B into place p by place m gives the first back
module _ {a b m p : ℕ} where
  pub add_then_subtract : {w v : List ℕ} → Apart (m ∷ p ∷ []) (a ∷ b ∷ []) →
      InTurn (a ∷ b ∷ m ∷ p ∷ []) (Meets (add m a b) ∷ Meets (subtract p m b) ∷ []) w v → One v p a
  add_then_subtract {w} d (u₁, t₁, (u₂, t₂, z)) =
      let h₁ = there (clear (rest t₁.taken.ends)) in
      let h₂ = there (clear (rest t₂.taken.ends)) in
      let s₀ = begun (a ∷ b ∷ []) w (h₁ 1 (omega arith), (h₁ 2 (omega arith), tt)) in
      let s₁ = past d t₁ refl t₁.taken refl at0 s₀ in
      let s₂ = past d t₂ refl t₂.taken refl at1 s₁ in
      let M₁ = added (found t₁ at0 (s₀ a at0).1) (found t₁ at1 (s₀ b at1).1) t₁.taken in
      let P₂ = subtracted (found t₂ at2 M₁) (found t₂ at1 (s₁ b at1).1) t₂.taken in
      agreed z at3 at0 (h₂ 0 (omega arith)) (h₁ 1 (omega arith)) P₂ (s₂ a at0).1 (λ s v. sum_undone (cost_of w a) (cost_of w b) s)

-- ---- THE SMALLER OF TWO SUMS: of A + C and B + C, by places m and n, into place p; that of A and B, by place k, plus C into place q
module _ {a b c m n p k q : ℕ} where
  pub smaller_of_sums : {w v : List ℕ} → Apart (m ∷ n ∷ p ∷ k ∷ q ∷ []) (a ∷ b ∷ c ∷ []) → (n ≡ m → ⊥) → (k ≡ p → ⊥) → (q ≡ p → ⊥) →
      InTurn (a ∷ b ∷ c ∷ m ∷ n ∷ p ∷ k ∷ q ∷ []) (Meets (add m a c) ∷ Meets (add n b c) ∷ Meets (D.smaller p m n) ∷ Meets (D.smaller k a b) ∷ Meets (add q k c) ∷ []) w v → One v p q
  smaller_of_sums {w} d nm kp qp (u₁, t₁, (u₂, t₂, (u₃, t₃, (u₄, t₄, (u₅, t₅, z))))) =
      let h₁ = there (clear (rest t₁.taken.ends)) in
      let h₂ = there (clear (rest t₂.taken.ends)) in
      let h₃ = there (clear (rest t₃.taken.ends)) in
      let h₅ = there (clear (rest t₅.taken.ends)) in
      let s₀ = begun (a ∷ b ∷ c ∷ []) w (h₁ 1 (omega arith), (h₂ 1 (omega arith), (h₁ 2 (omega arith), tt))) in
      let s₁ = past d t₁ refl t₁.taken refl at0 s₀ in
      let s₂ = past d t₂ refl t₂.taken refl at1 s₁ in
      let s₃ = past d t₃ refl t₃.taken refl at2 s₂ in
      let s₄ = past d t₄ refl t₄.taken refl at3 s₃ in
      let M₁ = added (found t₁ at0 (s₀ a at0).1) (found t₁ at2 (s₀ c at2).1) t₁.taken in
      let M₂ = kept t₂ refl t₂.taken refl at3 (h₁ 0 (omega arith)) (λ e. omega (arith, e, nm)) M₁ in
      let N₂ = added (found t₂ at1 (s₁ b at1).1) (found t₂ at2 (s₁ c at2).1) t₂.taken in
      let P₃ = smaller (found t₃ at3 M₂) (found t₃ at4 N₂) t₃.taken in
      let P₄ = kept t₄ refl t₄.taken refl at5 (h₃ 0 (omega arith)) (λ e. omega (arith, e, kp)) P₃ in
      let K₄ = smaller (found t₄ at0 (s₃ a at0).1) (found t₄ at1 (s₃ b at1).1) t₄.taken in
      let P₅ = kept t₅ refl t₅.taken refl at5 (h₃ 0 (omega arith)) (λ e. omega (arith, e, qp)) P₄ in
      let Q₅ = added (found t₅ at6 K₄) (found t₅ at2 (s₄ c at2).1) t₅.taken in
      agreed z at5 at7 (h₃ 0 (omega arith)) (h₅ 0 (omega arith)) P₅ Q₅ (λ s v. smaller_sums (cost_of w a) (cost_of w b) s (cost_of w c))

-- ---- SCALING A SUM: A + B, by place m, times k into place p; A times k and B times k, by places x and y, added into place q
module _ {a b m p x y q : ℕ} {k : ℤ} where
  pub scale_of_sum : {w v : List ℕ} → Apart (m ∷ p ∷ x ∷ y ∷ q ∷ []) (a ∷ b ∷ []) → (x ≡ p → ⊥) → (y ≡ p → ⊥) → (y ≡ x → ⊥) → (q ≡ p → ⊥) →
      InTurn (a ∷ b ∷ m ∷ p ∷ x ∷ y ∷ q ∷ []) (Meets (add m a b) ∷ Meets (scale p m k) ∷ Meets (scale x a k) ∷ Meets (scale y b k) ∷ Meets (add q x y) ∷ []) w v → One v p q
  scale_of_sum {w} d xp yp yx qp (u₁, t₁, (u₂, t₂, (u₃, t₃, (u₄, t₄, (u₅, t₅, z))))) =
      let h₁ = there (clear (rest t₁.taken.ends)) in
      let h₂ = there (clear (rest t₂.taken.ends)) in
      let h₃ = there (clear (rest t₃.taken.ends)) in
      let h₅ = there (clear (rest t₅.taken.ends)) in
      let s₀ = begun (a ∷ b ∷ []) w (h₁ 1 (omega arith), (h₁ 2 (omega arith), tt)) in
      let s₁ = past d t₁ refl t₁.taken refl at0 s₀ in
      let s₂ = past d t₂ refl t₂.taken refl at1 s₁ in
      let s₃ = past d t₃ refl t₃.taken refl at2 s₂ in
      let M₁ = added (found t₁ at0 (s₀ a at0).1) (found t₁ at1 (s₀ b at1).1) t₁.taken in
      let P₂ = scaled (found t₂ at2 M₁) t₂.taken in
      let P₃ = kept t₃ refl t₃.taken refl at3 (h₂ 0 (omega arith)) (λ e. omega (arith, e, xp)) P₂ in
      let X₃ = scaled (found t₃ at0 (s₂ a at0).1) t₃.taken in
      let P₄ = kept t₄ refl t₄.taken refl at3 (h₂ 0 (omega arith)) (λ e. omega (arith, e, yp)) P₃ in
      let X₄ = kept t₄ refl t₄.taken refl at4 (h₃ 0 (omega arith)) (λ e. omega (arith, e, yx)) X₃ in
      let Y₄ = scaled (found t₄ at1 (s₃ b at1).1) t₄.taken in
      let P₅ = kept t₅ refl t₅.taken refl at3 (h₂ 0 (omega arith)) (λ e. omega (arith, e, qp)) P₄ in
      let Q₅ = added (found t₅ at4 X₄) (found t₅ at5 Y₄) t₅.taken in
      agreed z at3 at6 (h₂ 0 (omega arith)) (h₅ 0 (omega arith)) P₅ Q₅ (λ s v. scaled_sum (cost_of w a) (cost_of w b) s k)
