-- The laws of the operators. Assumes nothing.
use mathlib.Core.Bool.{Bool, true, false, not}
use mathlib.Core.Path.{◌≡◌, refl, sym, ap, ap₂, ◌∙◌}
use mathlib.Core.Logic.{⊎_elim}
use mathlib.Core.List.{List, [], ◌∷◌}
use Prim.Native.Nat.{ℕ, suc, ◌+◌, ◌≤◌, ◌<◌}
use native.Mathlib.Numerals.{add-one}
use native.Mathlib.Omega.{arith}
use lib.Dec.{ltb, eqb}
use lib.ListN.{get_or, drop, get_or-eq_default}
use lib.Seq.{drop-cons, get_or-drop}
use borrow.Author.Tests.{lt-ltb, le-ltb, eq-eqb, ne_eqb}
use Rattle.std.specs.Prelude.{reverse}
use Rattle.std.specs.List.{fold}
use Rattle.std.proofs.lemmas.List.{reverse-append}
use Rattle.std.proofs.lemmas.List.Sums.{fold-append}
use Rattle.table_words.specs.Words.{listed}
use Rattle.table_words.proofs.Tab.{split, length_tab, get_or_tab}
use Rattle.rule_operators.specs.Operators.{op_of}
use Rattle.promises.specs.Tab.{tab}
use Rattle.promises.specs.Words.{pick}
use Rattle.promises.specs.Operators.{merged_of, pair_of, case_of, forgotten_of}

-- ---- which operator
pub op_pair : (o n : ℕ) (f : ℕ → ℕ) → 2 ≤ n → o < 6 → op_of o (tab f n) ≡ pair_of o (f 0) (f 1)
unfolding op_of
op_pair o n f h l = rw (lt-ltb o 6 l, get_or_tab f n 0 0 (omega arith), get_or_tab f n 1 0 (omega arith))

pub op_case : (o n : ℕ) (f : ℕ → ℕ) → 1 ≤ n → o ≡ 6 → op_of o (tab f n) ≡ case_of (f 0) (drop 1 (tab f n))
unfolding op_of
op_case o n f h l = rw (le-ltb o 6 (omega arith), eq-eqb o 6 l, get_or_tab f n 0 0 (omega arith))

pub op_forget : (o n : ℕ) (f : ℕ → ℕ) → 6 < o → op_of o (tab f n) ≡ forgotten_of (tab f n)
unfolding op_of
op_forget o n f h = rw (le-ltb o 6 (omega arith), ne_eqb o 6 (omega arith))

-- the same of a list of numbers
pub list_pair : (o : ℕ) (l : List ℕ) → o < 6 → op_of o l ≡ pair_of o (listed l 0) (listed l 1)
unfolding op_of
list_pair o l h = rw (lt-ltb o 6 h) refl

pub list_case : (l : List ℕ) → op_of 6 l ≡ case_of (listed l 0) (drop 1 l)
unfolding op_of
list_case l = refl

pub list_forget : (l : List ℕ) → op_of 7 l ≡ forgotten_of l
unfolding op_of
list_forget l = refl

-- ---- CASE
-- the number at the selector's index among the others, and 0 past them
pub case_at : (f : ℕ → ℕ) (n i : ℕ) → 1 + i < n → f (1 + i) ≡ case_of i (drop 1 (tab f n))
unfolding case_of
case_at f n i h = sym (get_or-drop 1 (tab f n) i 0 ∙ get_or_tab f n (1 + i) 0 h)

pub case_past : (f : ℕ → ℕ) (n i : ℕ) → n ≤ 1 + i → 0 ≡ case_of i (drop 1 (tab f n))
unfolding case_of
case_past f n i h = sym (get_or-drop 1 (tab f n) i 0 ∙ get_or-eq_default (tab f n) 0 (omega (arith, length_tab f n)))

-- ---- FORGET, from the last number to the first
pub forgotten_more : (f : ℕ → ℕ) (n i j b : ℕ) → i + 1 ≡ j → i < n → b ≡ forgotten_of (drop j (tab f n)) → merged_of (f i) b ≡ forgotten_of (drop i (tab f n))
unfolding forgotten_of
forgotten_more f n i j b e h q =
    ap₂ merged_of (sym (get_or_tab f n i 0 h)) (q ∙ ap (λ (m : ℕ). forgotten_of (drop m (tab f n))) (sym e ∙ add-one i))
    ∙ sym (ap forgotten_of (drop-cons (tab f n) i 0 (omega (arith, length_tab f n))))

pub forgotten_fold : (l : List ℕ) → fold (λ (a b : ℕ). merged_of b a) 0 (reverse l) ≡ forgotten_of l
unfolding forgotten_of
forgotten_fold [] = refl
forgotten_fold (x ∷ l) =
    ap (fold (λ (a b : ℕ). merged_of b a) 0) (reverse-append (x ∷ []) l) ∙ fold-append (λ (a b : ℕ). merged_of b a) 0 (reverse l) (x ∷ [])
    ∙ ap (merged_of x) (forgotten_fold l)

-- ---- what holds of 0, of 1 and of the numbers holds of the operator's
pick_any : (P : ℕ → Type 0) (t : Bool) (x y : ℕ) → P x → P y → P (pick t x y)
pick_any P true x y hx hy = hx
pick_any P false x y hx hy = hy

pair_any : (P : ℕ → Type 0) (o x y : ℕ) → P 0 → P 1 → P x → P y → P (pair_of o x y)
unfolding pair_of
pair_any P o x y h0 h1 hx hy =
    pick_any P (eqb o 1) _ _ (pick_any P (ltb x y) x y hx hy)
    (pick_any P (eqb o 2) _ _ (pick_any P (ltb x y) y x hy hx)
    (pick_any P (eqb o 3) _ _ (pick_any P (eqb x y) 1 0 h1 h0)
    (pick_any P (eqb o 4) _ _ (pick_any P (ltb x y) 1 0 h1 h0) (pick_any P (not (eqb x y)) 1 0 h1 h0))))

case_any : (P : ℕ → Type 0) (i : ℕ) (l : List ℕ) → ((j : ℕ) → P (get_or l j 0)) → P (case_of i l)
unfolding case_of
case_any P i l h = h i

forgotten_any : (P : ℕ → Type 0) (l : List ℕ) → P 0 → P 65535 → ((j : ℕ) → P (get_or l j 0)) → P (forgotten_of l)
unfolding forgotten_of
forgotten_any P [] h0 h2 h = h0
forgotten_any P (x ∷ l) h0 h2 h =
    let r : P (forgotten_of l) = forgotten_any P l h0 h2 (λ j. h (suc j)) in
    pick_any P (eqb x 0) (forgotten_of l) _ r (pick_any P (eqb (forgotten_of l) 0) x _ (h 0) (pick_any P (eqb x (forgotten_of l)) x 65535 (h 0) h2))

op_list : (P : ℕ → Type 0) (o : ℕ) (l : List ℕ) → P 0 → P 1 → P 65535 → ((j : ℕ) → P (get_or l j 0)) → P (op_of o l)
unfolding op_of
op_list P o l h0 h1 h2 h =
    pick_any P (ltb o 6) _ _ (pair_any P o (get_or l 0 0) (get_or l 1 0) h0 h1 (h 0) (h 1))
    (pick_any P (eqb o 6) _ _ (case_any P (get_or l 0 0) (drop 1 l) (λ j. rw (get_or-drop 1 l j 0) (h (1 + j)))) (forgotten_any P l h0 h2 h))

pub op_any : (P : ℕ → Type 0) (o n : ℕ) (f : ℕ → ℕ) → P 0 → P 1 → P 65535 → ((j : ℕ) → j < n → P (f j)) → P (op_of o (tab f n))
op_any P o n f h0 h1 h2 h = op_list P o (tab f n) h0 h1 h2 (λ j. ⊎_elim
    (λ l. rw (get_or_tab f n j 0 l) (h j l))
    (λ l. let z : get_or (tab f n) j 0 ≡ 0 = get_or-eq_default (tab f n) 0 (omega (arith, length_tab f n)) in rw z h0)
    (split j n))
