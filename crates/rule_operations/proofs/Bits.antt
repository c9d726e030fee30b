-- The laws of the literal: its bits are the branches of one node, its size is the number of its values. Assumes nothing.
use Rattle.std.specs.Prelude.{Option}
use mathlib.Core.Path.{◌≡◌, refl, sym, ap, ap₂, subst, ◌∙◌}
use mathlib.Core.Logic.{⊎_elim}
use mathlib.Core.List.{List}
use Prim.Native.Nat.{ℕ, zero, suc, ◌+◌, ◌*◌, ◌/◌, ◌%◌, ◌^◌, ◌≤◌, ◌<◌}
use native.Mathlib.Nat.{mod-lt, zero-add, add-zero, add_assoc, div-one, pow-suc, mul_comm, div-div-eq-div-mul, div-eq_of_lt, div-lt_iff_lt-mul}
use native.Mathlib.Omega.{arith}
use lib.Count.{ones, ones_step, ones-le}
use lib.ListN.{drop}
use lib.Pow.{shr_lt, pow_pos}
use Rattle.theory.specs.Build.{build}
use Rattle.theory.specs.Diagrams.{blank}
use Rattle.theory.specs.Functions.{held}
use Rattle.theory.specs.Rules.{Branch, Node, Built, says}
use Rattle.theory.proofs.Canonical.{each_stays}
use Rattle.theory.proofs.Rules.{value_phrase}
use Rattle.table_words.specs.Holding.{each_to, built as builtOf}
use Rattle.table_words.specs.Words.{listed}
use Rattle.table_words.proofs.Filling.{grown_refl}
use Rattle.table_words.proofs.Tab.{split, length_tab, get_or_tab}
use Rattle.rule_words.specs.Words.{branches}
use Rattle.rule_words.proofs.Reading.{decode_phrase, length_nodes}
use Rattle.rule_nodes.specs.Nodes.{layout, Holds, Listed, Makes, Result, built, Filling}
use Rattle.rule_nodes.proofs.Filling.{gives_eq, built_skip, built_there, fill_listed, fill_make}
use Rattle.rule_nodes.proofs.Reading.{lawful}
use Rattle.promises.specs.Words.{features, size, sizes}
use Rattle.promises.specs.RuleWords.{decode, rule_node_list as nodes}
use Rattle.promises.specs.Operators.{bit_of, literal_of, set_size}
use Rattle.rule_operations.specs.Literal.{BitList}

-- ---- bits
bit_small : (x v : ℕ) → bit_of x v < 65536
unfolding bit_of
bit_small x v = let h : x / 2 ^ v % 2 < 2 = mod-lt (x / 2 ^ v) (omega arith) in omega arith

-- bit 0 is the rest by 2, bit v + 1 is bit v of the half
bit_first : (x : ℕ) → bit_of x 0 ≡ x % 2
unfolding bit_of
bit_first x = ap (λ (y : ℕ). y % 2) (div-one x)

bit_next : (x v : ℕ) → bit_of x (suc v) ≡ bit_of (x / 2) v
unfolding bit_of
bit_next x v = ap (λ (y : ℕ). y % 2) (sym (div-div-eq-div-mul x 2 (2 ^ v) ∙ ap (λ (k : ℕ). x / k) (mul_comm 2 (2 ^ v) ∙ sym (pow-suc 2 v))))

size_next : (n x : ℕ) → set_size (suc n) x ≡ x % 2 + set_size n (x / 2)
unfolding set_size
size_next zero x = zero-add (bit_of x 0) ∙ bit_first x ∙ sym (add-zero (x % 2))
size_next (suc n) x = ap₂ (λ (y z : ℕ). y + z) (size_next n x) (bit_next x n) ∙ add_assoc (x % 2) (set_size n (x / 2)) (bit_of (x / 2) n)

-- THEOREM: the ones of a set of values below n are as many as its values
pub ones_size : (n x : ℕ) → x < 2 ^ n → ones x ≡ set_size n x
unfolding set_size
ones_size zero x h = omega (arith, ones-le 0 x h)
ones_size (suc n) x h =
    ones_step x ∙ ap (λ (y : ℕ). x % 2 + y) (ones_size n (x / 2) (shr_lt n 1 (subst (λ (k : ℕ). x < 2 ^ k) (let e : suc n ≡ n + 1 = omega arith in e) h))) ∙ sym (size_next n x)

-- a set with nothing shifted out of its size, and one with something
pub shift_none : (x n : ℕ) → x / 2 ^ n ≡ 0 → x < 2 ^ n
shift_none x n e = ⊎_elim
    (λ h. h)
    (λ h. absurd (let k = div-lt_iff_lt-mul {k = 2 ^ n} {x = x} {y = 1} (pow_pos n) in let q : x < 1 * 2 ^ n = k.0 (omega arith) in omega arith))
    (split x (2 ^ n))

pub shift_some : (x n : ℕ) → (x / 2 ^ n ≡ 0 → ⊥) → 2 ^ n ≤ x
shift_some x n e = ⊎_elim (λ h. absurd (e (div-eq_of_lt h))) (λ h. h) (split x (2 ^ n))

-- ---- the literal is built by one `make`
-- the features below the literal's are passed over
down : (w : List ℕ) (x k d : ℕ) → Holds w → k + d < features w → built w k (literal_of d x) ≡ built w (k + d) (literal_of 0 x)
down w x k zero ok h = rw add-zero refl
down w x k (suc d) ok h =
    let e : k + suc d ≡ k + 1 + d = omega arith in
    rw e (built_skip w k (literal_of (suc d) x) (literal_of d x) ok (omega arith) (λ v l s. refl) ∙ down w x (k + 1) d ok (omega arith))

module _ (w : List ℕ) (f x : ℕ) (l : List ℕ) (ok : Holds w) (hf : f < features w) (bits : BitList x (size w f) l) where
  small : (v : ℕ) → v < size w f → listed l v < 65536
  small v h = rw (bits.each v h) (bit_small x v)

  there : (v : ℕ) → v < size w f → build (suc f) (drop (suc f) (sizes w)) (held v (literal_of 0 x)) (nodes w) ≡ (decode (listed l v), nodes w)
  unfolding builtOf
  there v h =
      built_there w (suc f) (listed l v) (held v (literal_of 0 x)) ok (rw (decode_phrase (listed l v) (small v h)) tt)
      (λ s. rw (decode_phrase (listed l v) (small v h)) (value_phrase (nodes w) (suc f) (listed l v) s ∙ ap says (bits.each v h)))

  all : each_to layout w f (literal_of 0 x) (size w f) ≡ (branches (size w f) (listed l), nodes w)
  unfolding each_to
  all = each_stays (build (suc f) (drop (suc f) (sizes w))) (literal_of 0 x) (nodes w) (branches (size w f) (listed l)) 0 (size w f) (length_tab (λ v. decode (listed l v)) (size w f))
      (λ v h. rw zero-add (there v h ∙ ap (λ (c : Branch). let t : Built = (c, nodes w) in t) (sym (get_or_tab (λ u. decode (listed l u)) (size w f) v blank h))))

  filled : Filling w w f (literal_of 0 x) (size w f) l
  filled = record {
    filled = record {
      grown = rw all (grown_refl lawful w ok);
      fits = rw all (omega (arith, length_nodes w, ok.laid.laid.within));
      says = sym (ap (λ (q : List Branch × List Node). q.0) all);
    };
    pad = bits.pad;
    long = bits.long;
  }

  -- `make` may be asked
  pub literal_listed : Listed w f l
  literal_listed = fill_listed w f (literal_of 0 x) ok hf w l filled

  -- and its answer is the literal
  pub literal_made : (t : List ℕ) (a : Option ℕ) → Makes w t f l a → Result w t 0 (literal_of f x) a
  literal_made t a m =
      gives_eq (down w x 0 f ok (omega arith) ∙ ap (λ (k : ℕ). built w k (literal_of 0 x)) (zero-add f)) (fill_make w f (literal_of 0 x) ok hf w t l a filled m)
