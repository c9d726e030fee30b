-- Bytes put one after the other are put together; what a number and a branch are put together of. Assumes nothing.
use mathlib.Core.Path.{◌≡◌, refl, sym, ap, subst, ◌∙◌}
use mathlib.Core.Logic.{⊎_elim}
use mathlib.Core.List.{List, [], ◌∷◌, ◌++◌}
use Prim.Native.Nat.{ℕ, suc, ◌+◌, ◌-◌, ◌/◌, ◌%◌, ◌<◌}
use native.Mathlib.Nat.{add-zero}
use native.Mathlib.Numerals.{add-one}
use native.Mathlib.Omega.{arith}
use lib.ListN.{length, set, length-append}
use lib.Seq.{sets, length-sets}
use Rattle.table_words.proofs.Tab.{split}
use Rattle.rule_words.proofs.Reading.{decode_phrase, decode_node}
use Rattle.sheet_bytes.specs.Sections.{two}
use Rattle.sheet_bytes.specs.Sheet.{target_bytes, branch_bytes}
use Rattle.sheet_laying.specs.Laid.{Puts}
use Rattle.sheet_laying.specs.declared.bytes.Cursor.{Cursor}
use Rattle.promises.specs.RuleWords.{decode}

-- ---- one after the other
sets_append : (a b l : List ℕ) (p : ℕ) → sets (sets l p a) (p + length a) b ≡ sets l p (a ++ b)
sets_append [] b l p = ap (λ (q : ℕ). sets l q b) (add-zero p)
sets_append (x ∷ a) b l p =
    let e : p + suc (length a) ≡ suc p + length a = omega arith in
    ap (λ (q : ℕ). sets (sets (set l p x) (suc p) a) q b) e ∙ sets_append a b (set l p x) (suc p)

pub puts_none : (c : Cursor) → Puts [] c c
puts_none c = record { same = refl; bytes = refl; ends = sym (add-zero c.at) }

pub puts_long : {l : List ℕ} {c d : Cursor} → Puts l c d → length d.out.now ≡ length c.out.now
puts_long {l} {c} p = ap length p.bytes ∙ length-sets c.out.now c.at l

pub puts_after : {a b : List ℕ} {c d e : Cursor} → Puts a c d → Puts b d e → Puts (a ++ b) c e
puts_after {a} {b} {c} {d} {e} x y =
    record {
      same = y.same ∙ x.same;
      bytes = y.bytes ∙ (λ i. sets (x.bytes i) (x.ends i) b) ∙ sets_append a b c.out.now c.at;
      ends = omega (arith, x.ends, y.ends, length-append a b);
    }

pub puts_same : {a b : List ℕ} {c d : Cursor} → a ≡ b → Puts a c d → Puts b c d
puts_same {c = c} {d = d} e x = subst (λ (l : List ℕ). Puts l c d) e x

-- ---- a number, and a branch
pub length_two : (x : ℕ) → length (two x) ≡ 2
unfolding two
length_two x = refl

pub sets_two : (x : ℕ) {a b : ℕ} (out : List ℕ) (p : ℕ) → a ≡ x / 256 → b ≡ x % 256 → set (set out p a) (p + 1) b ≡ sets out p (two x)
unfolding two
sets_two x out p e f = (λ i. set (set out p (e i)) (p + 1) (f i)) ∙ ap (λ (q : ℕ). set (set out p (x / 256)) q (x % 256)) (add-one p)

pub branch_bytes_lem : (x : ℕ) → x < 131072 → (x / 65536 ∷ []) ++ two (x % 65536) ≡ branch_bytes (decode x)
unfolding target_bytes
branch_bytes_lem x h = ⊎_elim
    (λ l.
    let a : x / 65536 ≡ 0 = omega arith in
    let b : x % 65536 ≡ x = omega arith in
    (λ i. a i ∷ two (b i)) ∙ ap branch_bytes (sym (decode_phrase x l)))
    (λ l.
    let a : x / 65536 ≡ 1 = omega arith in
    let b : x % 65536 ≡ x - 65536 = omega arith in
    (λ i. a i ∷ two (b i)) ∙ ap branch_bytes (sym (decode_node x l)))
    (split x 65536)
