-- The operators asked of branch words: where that is the result's branch. Assumes nothing.
use mathlib.Core.Bool.{Bool, true, false}
use mathlib.Core.Path.{◌≡◌, refl, sym, ap, ap₂, ◌∙◌}
use mathlib.Core.Logic.{◌⊎◌, inl, inr, ⊎_elim}
use Prim.Native.Nat.{ℕ, ◌+◌, ◌≤◌, ◌<◌}
use native.Mathlib.Omega.{arith}
use lib.Dec.{ltb, eqb}
use lib.ListN.{drop}
use borrow.Author.Tests.{lt-ltb, le-ltb, eq-eqb}
use Rattle.table_words.specs.Words.{listed}
use Rattle.table_words.proofs.Tab.{split, same}
use Rattle.rule_engine.specs.Shortcuts.{Standing, ShortPair, Short}
use Rattle.rule_operators.proofs.Operating.{op_pair, op_case, case_at, case_past}
use Rattle.promises.specs.Tab.{tab}
use Rattle.promises.specs.Words.{pick}
use Rattle.promises.specs.Operators.{lesser_of as smaller_of, greater_of as larger_of, truth_of, pair_of, case_of}

-- ---- two equal branches
pick_of : (F : ℕ → ℕ) (t : Bool) (x y : ℕ) → F (pick t x y) ≡ pick t (F x) (F y)
pick_of F true x y = refl
pick_of F false x y = refl

-- the number itself, 1 or 0, by the operator alone
same_pair : (o x : ℕ) → pair_of o x x ≡ pick (eqb o 1) x (pick (eqb o 2) x (pick (eqb o 3) 1 (pick (eqb o 4) 0 0)))
unfolding pair_of
same_pair o x = rw (le-ltb x x (omega arith), eq-eqb x x refl) refl

pub short_same : (o x y : ℕ) → x ≡ y → ShortPair o x y
short_same o x y e = rw (sym e) (record {
  says = λ F st.
      ap F (same_pair o x) ∙ pick_of F (eqb o 1) _ _ ∙ ap (pick (eqb o 1) (F x)) (pick_of F (eqb o 2) _ _ ∙ ap (pick (eqb o 2) (F x)) (pick_of F (eqb o 3) _ _
      ∙ ap₂ (pick (eqb o 3)) (st.itself 1 (omega arith)) (pick_of F (eqb o 4) 0 0 ∙ ap₂ (pick (eqb o 4)) (st.itself 0 (omega arith)) (st.itself 0 (omega arith)))))
      ∙ sym (same_pair o (F x));
})

-- ---- the phrase 0
smaller_left : (y : ℕ) → smaller_of 0 y ≡ 0
smaller_left y = ⊎_elim (λ l. rw (lt-ltb 0 y l) refl) (λ l. rw (le-ltb 0 y l) (omega arith)) (split 0 y)

smaller_right : (x : ℕ) → smaller_of x 0 ≡ 0
smaller_right x = rw (le-ltb x 0 (omega arith)) refl

larger_left : (y : ℕ) → larger_of 0 y ≡ y
larger_left y = ⊎_elim (λ l. rw (lt-ltb 0 y l) refl) (λ l. rw (le-ltb 0 y l) (omega arith)) (split 0 y)

larger_right : (x : ℕ) → larger_of x 0 ≡ x
larger_right x = rw (le-ltb x 0 (omega arith)) refl

-- one of two is 0, if the smaller is
smaller_zero : (x y : ℕ) → smaller_of x y ≡ 0 → (x ≡ 0) ⊎ (y ≡ 0)
smaller_zero x y = ⊎_elim (λ l. rw (lt-ltb x y l) (λ e. inl e)) (λ l. rw (le-ltb x y l) (λ e. inr e)) (split x y)

-- which operator it is
pair_smaller : (o x y : ℕ) → o ≡ 1 → pair_of o x y ≡ smaller_of x y
unfolding pair_of
pair_smaller o x y e = rw e refl

pair_larger : (o x y : ℕ) → o ≡ 2 → pair_of o x y ≡ larger_of x y
unfolding pair_of
pair_larger o x y e = rw e refl

pair_less : (o x y : ℕ) → o ≡ 4 → pair_of o x y ≡ truth_of (ltb x y)
unfolding pair_of
pair_less o x y e = rw e refl

at_zero : (F : ℕ → ℕ) → Standing F → F 0 ≡ 0
at_zero F st = st.itself 0 (omega arith)

zero_smaller : (o x y : ℕ) → o ≡ 1 → (x ≡ 0) ⊎ (y ≡ 0) → ShortPair o x y
zero_smaller o x y k z = record { says = λ F st. ap F (pair_smaller o x y k ∙ zero x y z) ∙ at_zero F st ∙ sym (pair_smaller o (F x) (F y) k ∙ zero (F x) (F y) (stay F st z)) }
  where
    zero : (a b : ℕ) → (a ≡ 0) ⊎ (b ≡ 0) → smaller_of a b ≡ 0
    zero a b = ⊎_elim (λ e. rw e (smaller_left b)) (λ e. rw e (smaller_right a))

    stay : (F : ℕ → ℕ) → Standing F → (x ≡ 0) ⊎ (y ≡ 0) → (F x ≡ 0) ⊎ (F y ≡ 0)
    stay F st = ⊎_elim (λ e. inl (ap F e ∙ at_zero F st)) (λ e. inr (ap F e ∙ at_zero F st))

zero_larger : (o x y : ℕ) → o ≡ 2 → (x ≡ 0) ⊎ (y ≡ 0) → ShortPair o x y
zero_larger o x y k z = record {
  says = λ F st. ap F (pair_larger o x y k) ∙ ⊎_elim
      (λ e. ap F (ap (λ (a : ℕ). larger_of a y) e ∙ larger_left y) ∙ sym (ap (λ (a : ℕ). larger_of a (F y)) (ap F e ∙ at_zero F st) ∙ larger_left (F y)))
      (λ e. ap F (ap (larger_of x) e ∙ larger_right x) ∙ sym (ap (larger_of (F x)) (ap F e ∙ at_zero F st) ∙ larger_right (F x)))
      z ∙ sym (pair_larger o (F x) (F y) k);
}

pub short_zero : (o x y : ℕ) → 1 ≤ o → o ≤ 2 → smaller_of x y ≡ 0 → ShortPair o x y
short_zero o x y a b e = ⊎_elim (λ q. zero_smaller o x y q (smaller_zero x y e)) (λ q. zero_larger o x y (omega (arith, q)) (smaller_zero x y e)) (same o 1)

-- nothing is less
pub short_less : (o x y : ℕ) → o ≡ 4 → y ≡ 0 → ShortPair o x y
short_less o x y k e = record {
  says = λ F st.
      ap F (pair_less o x y k ∙ none x y e) ∙ at_zero F st ∙ sym (pair_less o (F x) (F y) k ∙ none (F x) (F y) (ap F e ∙ at_zero F st));
}
  where
    none : (a b : ℕ) → b ≡ 0 → truth_of (ltb a b) ≡ 0
    none a b z = rw (le-ltb a b (omega arith)) refl

-- ---- the list of branches
pub short_pair : (o f x y : ℕ) → 16 ≤ f → o < 6 → ShortPair o x y → Short o f x y
short_pair o f x y h lt p = record {
  none = h;
  says = λ l d e n two F st.
      ap F (op_pair o n (listed l) two lt ∙ ap₂ (pair_of o) d e) ∙ p.says F st
      ∙ sym (op_pair o n (λ j. F (listed l j)) two lt ∙ ap₂ (pair_of o) (ap F d) (ap F e));
}

-- the chosen branch stands for the chosen number
chosen_stands : (F : ℕ → ℕ) (g : ℕ → ℕ) (n p : ℕ) → Standing F → F (case_of p (drop 1 (tab g n))) ≡ case_of p (drop 1 (tab (λ j. F (g j)) n))
chosen_stands F g n p st = ⊎_elim
    (λ l. ap F (sym (case_at g n p l)) ∙ case_at (λ j. F (g j)) n p l)
    (λ l. ap F (sym (case_past g n p l)) ∙ st.itself 0 (omega arith) ∙ case_past (λ j. F (g j)) n p l)
    (split (1 + p) n)

pub short_case : (o f x y : ℕ) → 16 ≤ f → o ≡ 6 → x < 65536 → Short o f x y
short_case o f x y h six small = record {
  none = h;
  says = λ l d e n two F st.
      let G : ℕ → ℕ = λ j. F (listed l j) in
      ap F (op_case o n (listed l) (omega arith) six) ∙ chosen_stands F (listed l) n (listed l 0) st
      ∙ ap (λ (p : ℕ). case_of p (drop 1 (tab G n))) (d ∙ sym (ap F d ∙ st.itself x small)) ∙ sym (op_case o n G (omega arith) six);
}
