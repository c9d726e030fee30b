-- Targets and integers in words, and two targets in a word: read back. Assumes nothing.
use mathlib.Core.Path.{◌≡◌, refl, sym, ap, ap₂, subst, ◌∙◌}
use mathlib.Core.Logic.{⊎_elim}
use mathlib.Core.List.{List}
use Prim.Native.Nat.{ℕ, zero, suc, ◌+◌, ◌*◌, ◌-◌, ◌/◌, ◌%◌, ◌≤◌, ◌<◌}
use native.Mathlib.Omega.{arith}
use borrow.Author.Tests.{lt-ltb, le-ltb}
use lib.IntN.{pos}
use Rattle.theory.specs.Costs.{costs}
use Rattle.theory.specs.Copying.{Twin}
use Rattle.theory.specs.Diagrams.{Branch, Node, Target, leaf, node}
use Rattle.theory_costs.specs.Integers.{word_for}
use Rattle.theory_costs.proofs.Growing.{sum_copied}
use Rattle.theory_costs.proofs.Integers.{ℕ-eq, minus_fall}
use Rattle.theory_costs.proofs.Words.{int_ℕ, int_one, int_word, signed_word}
use Rattle.table_words.proofs.Halves.{half_even, half_odd}
use Rattle.table_words.proofs.Tab.{split, same}
use Rattle.cost_words.specs.Table.{cost_table}
use Rattle.cost_words.specs.Words.{target_word, packed, pair_word, target_of, Worded}
use Rattle.cost_words.specs.declared.Target.{Target as CodeTarget}
use Rattle.cost_words.specs.declared.Target.TheVariants.{End, Node as NodeIs}
use Rattle.promises.specs.Integers.{fall, bias, int}
use Rattle.promises.specs.CostOperations.{smaller_of, larger_of}
use Rattle.promises.specs.CostWords.{target, cost_branch as branch, half, goes, added, Padded}

-- ---- targets
pub target_end : (x : ℕ) → x ≡ 0 → target x ≡ leaf tt
unfolding target
target_end x e = rw e

pub target_node : (x i : ℕ) → x ≡ suc i → target x ≡ node i
unfolding target
target_node x i e = rw e

pub target_word_lem : (x : ℕ) → target_word (target x) ≡ x
unfolding target
target_word_lem zero = refl
target_word_lem (suc i) = refl

pub word_target : (t : Target costs) → target (target_word t) ≡ t
unfolding target
word_target (leaf e) = refl
word_target (node i) = refl

pub target_one : (x y : ℕ) → target x ≡ target y → x ≡ y
target_one x y e = sym (target_word_lem x) ∙ ap target_word e ∙ target_word_lem y

-- the word of a known target
pub word_of_end : (x : ℕ) → leaf tt ≡ target x → x ≡ 0
word_of_end x e = sym (ap target_word e ∙ target_word_lem x)

pub word_of_node : (x i : ℕ) → node i ≡ target x → x ≡ suc i
word_of_node x i e = sym (ap target_word e ∙ target_word_lem x)

-- ---- the code's targets
pub word_end : (x : CodeTarget) → x ≡ End → target 0 ≡ target_of x
word_end x e = target_end 0 refl ∙ sym (ap target_of e)

pub word_node : (x : CodeTarget) (i y : ℕ) → x ≡ NodeIs i → y ≡ suc i → target y ≡ target_of x
word_node x i y e h = target_node y i h ∙ sym (ap target_of e)

pub node_fits : (x : CodeTarget) (i : ℕ) → x ≡ NodeIs i → Worded x → i < 65535
node_fits x i e h = subst (λ (y : CodeTarget). Worded y) e h

-- the target of a small word has a word
pub word_again : (x : CodeTarget) (y : ℕ) → target_of x ≡ target y → y < 65536 → Worded x
word_again End y e h = tt
word_again (NodeIs i) y e h = let q : suc i ≡ y = ap target_word e ∙ target_word_lem y in omega (arith, q, h)

-- ---- integers
pub int_zero : int 2147483648 ≡ pos 0
int_zero = ℕ-eq (int 2147483648) (pos 0) (omega (arith, int_ℕ 2147483648))

pub int_fall : (x : ℕ) → fall (int x) ≤ bias
int_fall x = omega (arith, ap fall (signed_word x), minus_fall (pos x) (pos bias))

pub word_int : (x : ℕ) → word_for (int x) ≡ x
word_int x = omega (arith, int_ℕ x, int_fall x)

-- the branch of the words of a branch
pub word_branch : (b : Branch costs) → fall b.adds ≤ bias → branch (target_word b.to) (word_for b.adds) ≡ b
word_branch b h = λ i. record { adds = int_word b.adds h i; to = word_target b.to i }

-- ---- halves
-- the two halves of body word u
pub goes_low : (f : ℕ → ℕ) (u : ℕ) → goes f (2 * u) ≡ f u % 65536
goes_low f u =
    let e : 2 * u / 2 ≡ u = omega arith in
    half_even (f (2 * u / 2)) (2 * u) (omega arith) ∙ ap (λ (j : ℕ). f j % 65536) e

pub goes_high : (f : ℕ → ℕ) (u : ℕ) → goes f (2 * u + 1) ≡ f u / 65536
goes_high f u =
    let e : (2 * u + 1) / 2 ≡ u = omega arith in
    half_odd (f ((2 * u + 1) / 2)) (2 * u + 1) (λ z. omega arith) ∙ ap (λ (j : ℕ). f j / 65536) e

-- ---- a body packed
module _ (x a : ℕ → ℕ) where
  pub packed_low : (v : ℕ) → v < 4 → packed x a v ≡ x (2 * v) + 65536 * x (2 * v + 1)
  unfolding packed
  packed_low v h = rw (lt-ltb v 4 h)

  pub packed_high : (v : ℕ) → 4 ≤ v → packed x a v ≡ a (v - 4)
  unfolding packed
  packed_high v h = rw (le-ltb v 4 h)

  pub packed_added : (v : ℕ) → added (packed x a) v ≡ a v
  packed_added v = packed_high (4 + v) (omega arith) ∙ ap a (let e : 4 + v - 4 ≡ v = omega arith in e)

  pub packed_goes : ((u : ℕ) → u < 8 → x u < 65536) → (v : ℕ) → v < 8 → goes (packed x a) v ≡ x v
  packed_goes small v h = ⊎_elim even odd (same (v % 2) 0)
    where
      word : packed x a (v / 2) ≡ x (2 * (v / 2)) + 65536 * x (2 * (v / 2) + 1)
      word = packed_low (v / 2) (omega arith)

      low : x (2 * (v / 2)) < 65536
      low = small (2 * (v / 2)) (omega arith)

      even : v % 2 ≡ 0 → goes (packed x a) v ≡ x v
      even e =
          let q : 2 * (v / 2) ≡ v = omega arith in
          let r : packed x a (v / 2) % 65536 ≡ x (2 * (v / 2)) = omega (arith, word, low) in
          half_even (packed x a (v / 2)) v e ∙ r ∙ ap x q

      odd : (v % 2 ≡ 0 → ⊥) → goes (packed x a) v ≡ x v
      odd e =
          let q : 2 * (v / 2) + 1 ≡ v = omega (arith, e) in
          let r : packed x a (v / 2) / 65536 ≡ x (2 * (v / 2) + 1) = omega (arith, word, low) in
          half_odd (packed x a (v / 2)) v e ∙ r ∙ ap x q

pub packed_ext : (x y a b : ℕ → ℕ) → ((v : ℕ) → v < 8 → x v ≡ y v) → ((v : ℕ) → v < 8 → a v ≡ b v) → (v : ℕ) → v < 12 → packed x a v ≡ packed y b v
packed_ext x y a b e d v h = ⊎_elim
    (λ l. packed_low x a v l ∙ ap₂ (λ (p q : ℕ). p + 65536 * q) (e (2 * v) (omega arith)) (e (2 * v + 1) (omega arith)) ∙ sym (packed_low y b v l))
    (λ l. packed_high x a v l ∙ d (v - 4) (omega arith) ∙ sym (packed_high y b v l))
    (split v 4)

-- every body is packed of its targets and added words
pub packed_self : (f : ℕ → ℕ) (v : ℕ) → v < 12 → f v ≡ packed (goes f) (added f) v
packed_self f v h = ⊎_elim
    (λ l.
    let e : f v ≡ goes f (2 * v) + 65536 * goes f (2 * v + 1) = omega (arith, goes_low f v, goes_high f v) in
    e ∙ sym (packed_low (goes f) (added f) v l))
    (λ l. ap f (let e : v ≡ 4 + (v - 4) = omega arith in e) ∙ sym (packed_high (goes f) (added f) v l))
    (split v 4)

-- ---- the branches tell the body words
module _ (m : ℕ) (f g : ℕ → ℕ) (e : (v : ℕ) → v < m → cost_table.arm f v ≡ cost_table.arm g v) (p : Padded m f) (q : Padded m g) where
  goes_told : (v : ℕ) → v < 8 → goes f v ≡ goes g v
  goes_told v h = ⊎_elim
      (λ s. target_one (goes f v) (goes g v) (ap (λ (b : Branch costs). b.to) (e v s)))
      (λ s. p.targets v s h ∙ sym (q.targets v s h))
      (split v m)

  added_told : (v : ℕ) → v < 8 → added f v ≡ added g v
  added_told v h = ⊎_elim
      (λ s. int_one (added f v) (added g v) (ap (λ (b : Branch costs). b.adds) (e v s)))
      (λ s. p.addeds v s h ∙ sym (q.addeds v s h))
      (split v m)

  pub body_told : (u : ℕ) → u < 12 → f u ≡ g u
  body_told u h = packed_self f u h ∙ packed_ext (goes f) (goes g) (added f) (added g) goes_told added_told u h ∙ sym (packed_self g u h)

pub goes_same : (f g : ℕ → ℕ) → ((u : ℕ) → u < 12 → f u ≡ g u) → (v : ℕ) → v < 8 → goes f v ≡ goes g v
goes_same f g e v h = ap (λ (y : ℕ). half y v) (e (v / 2) (omega arith))

-- nodes that mean the same have the same pair
pub pair_twin : (S : List ℕ) (N M : List (Node costs)) (i n j : ℕ) → Twin S N M i n → pair_word S N i j ≡ pair_word S M n j
unfolding pair_word
pair_twin S N M i n zero t = ap word_for (sum_copied smaller_of S N M i n (sym t.alike) (λ s x. sym (t.mean.says s x)))
pair_twin S N M i n (suc j) t = ap word_for (sum_copied larger_of S N M i n (sym t.alike) (λ s x. sym (t.mean.says s x)))
