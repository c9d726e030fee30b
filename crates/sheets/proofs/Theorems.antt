-- What the definitions add up to: bytes and rules decide each other, NEWER whatever follows, the longest sheet, what C gets, the look up of many. Assumes nothing.
use mathlib.Core.Path.{◌≡◌, refl, sym, ap, subst, ◌∙◌}
use mathlib.Core.HLevel.{dec→stable}
use mathlib.Core.Logic.{◌↔◌}
use mathlib.Core.List.{List, [], ◌∷◌}
use Prim.Native.Nat.{ℕ, ◌+◌, ◌*◌, ◌≤◌, ◌<◌}
use native.Mathlib.Omega.{arith}
use lib.ListN.{length, get_or}
use Rattle.theory.specs.Settings.{Valid}
use Rattle.theory.specs.Functions.{Agree}
use Rattle.theory.specs.Rules.{Built, Phrase, Rule}
use Rattle.theory.proofs.Canonical.{build_agree}
use Rattle.theory.proofs.Ranges.{valid_decided}
use Rattle.settings.specs.Refusals.{Ends, ◌when◌else◌, taken}
use Rattle.settings.specs.declared.refusals.Refusal.{Refusal}
use Rattle.settings.specs.declared.refusals.Refusal.TheVariants.{BadArgument}
use Rattle.settings.specs.Refusals.{Outcome, Taken, Refused, ending_of, number_of}
use Rattle.std.specs.Prelude.{Result, Ok, Err}
use Rattle.promises.specs.RuleDeeds.{looked}
use Rattle.settings.proofs.Endings.{not_taken, one_number, ends_unique}
use Rattle.promises.specs.declared.Looked.{Looked}
use Rattle.promises.specs.Sheet.{NewerSheet, sheet_sizes, sheet_count, sheet_rule, GoodSheet}
use Rattle.promises.specs.Deed.{refusals, Meets}
use Rattle.promises.specs.SheetDeeds.{sheet_cases, look_up_in, row_of, SettingRows, number_in, look_up_all_in}
use Rattle.table_calls.proofs.Like.{clear, rest}
use Rattle.sheet_bytes.specs.Sections.{sheet_byte_list}
use Rattle.sheet_bytes.specs.Sheet.{branch_bytes, sheet_of, Writable, IsSheet}
use Rattle.sheet_bytes.proofs.Places.{place_most}
use Rattle.sheet_check.proofs.Reading.{sheet_sizes_lem, sheet_says}
use Rattle.promises.specs.ForC.{heard, Hears, returned, tell_returned, tell_filled}
use Rattle.sheets.proofs.Rows.{row_word}

written : (S : List ℕ) (g : Rule) (s : List ℕ) → Writable S g → sheet_of S g ≡ s → IsSheet S g s
written S g s w e = record { writable = w; bytes = e }

-- rules that agree have one sheet
pub agree_sheet : (S : List ℕ) (g h : Rule) → Agree S g h → sheet_of S g ≡ sheet_of S h
unfolding sheet_of
agree_sheet S g h a = ap (λ (r : Built). sheet_byte_list branch_bytes (1 ∷ []) S r.1 (r.0 ∷ [])) (build_agree 0 S g h a [])

-- equal bytes have one feature list
pub same_list : (S T : List ℕ) (g h : Rule) → Writable S g → Writable T h → sheet_of S g ≡ sheet_of T h → S ≡ T
same_list S T g h x y e = sym (sheet_sizes_lem (written S g (sheet_of T h) x e)) ∙ sheet_sizes_lem (written T h (sheet_of T h) y refl)

-- two sheets over one list have equal bytes exactly if their rules agree at every setting
pub same_sheet : (S : List ℕ) (g h : Rule) → Writable S g → Writable S h → (sheet_of S g ≡ sheet_of S h) ↔ Agree S g h
same_sheet S g h x y = (
  (λ e t v. sym (sheet_says (written S g (sheet_of S h) x e) t v) ∙ sheet_says (written S h (sheet_of S h) y refl) t v),
  agree_sheet S g h,
)

-- NEWER whatever follows the edition, and never a sheet
pub newer_whatever : (n : ℕ) (rest : List ℕ) → 2 ≤ n → NewerSheet (0 ∷ 1 ∷ n ∷ rest)
newer_whatever n rest h = record { three = omega arith; zero = refl; one = refl; more = h }

pub newer_not : {s : List ℕ} → NewerSheet s → GoodSheet s → ⊥
newer_not n g = let e = g.ordered.head.edition in omega (arith, n.more)

-- the longest sheet has 102,428 bytes
pub longest : {s : List ℕ} → GoodSheet s → length s ≤ 102428
longest {s} g =
    let o = g.ordered in
    omega (arith, o.lie.ends, o.lie.room, place_most o.head (sheet_count s) o.lie.known)

-- ---- what C gets, case by case
number_there : (r : Result Looked Refusal) → ending_of r ≡ Taken → returned r ≡ (looked.value r).0.end
number_there (Ok v) e = refl
number_there (Err x) e = not_taken e

module _ {s t : List ℕ} {r : ℕ} (a : Hears (Meets (look_up_in s t) tt tt) (tell_returned []) (heard r [] [])) where
  got : {x : Refusal} → ending_of a.answer ≡ Refused x → r ≡ 65536 + number_of x
  got {x} e = a.number ∙ ap returned (a.keeps.refused x e)

  abbrev bytes : Ends (sheet_cases s (BadArgument when (Valid (sheet_sizes s) t → ⊥) else taken)) (ending_of a.answer)
  bytes = a.keeps.ends.1 (λ n. n tt)

  pub returns_newer : NewerSheet s → r ≡ 65536 + 3
  returns_newer n = got (bytes.0 n)

  pub returns_bad : (NewerSheet s → ⊥) → (GoodSheet s → ⊥) → r ≡ 65536 + 4
  returns_bad n b = got ((bytes.1 n).0 b)

  module _ (g : GoodSheet s) where
    abbrev later : Ends (BadArgument when (Valid (sheet_sizes s) t → ⊥) else taken) (ending_of a.answer)
    later = (bytes.1 (λ n. newer_not n g)).1 (λ b. b g)

    pub returns_argument : (Valid (sheet_sizes s) t → ⊥) → r ≡ 65536 + 6
    returns_argument n = got (later.0 n)

    pub returns_number : Valid (sheet_sizes s) t → r ≡ (sheet_rule s t).end
    returns_number v =
        let e = later.1 (λ n. n v) in
        a.number ∙ number_there a.answer e ∙ ap (λ (x : Phrase). x.end) (a.keeps.gives e).0

-- ---- LOOK UP OF MANY: each as look up of its row
module _ {s t out out' : List ℕ} {o : Outcome} (a : Meets (look_up_all_in s t out) tt tt (o, out')) where
  abbrev row_at : ℕ → List ℕ
  row_at = row_of (length (sheet_sizes s)) t

  module _ (i : ℕ) (h : i < length out) {r : Result Looked Refusal} (b : Meets (look_up_in s (row_at i)) tt tt r) where
    -- taken: so is the look up of the row, and its number stands in the row's word
    module _ (e : o ≡ Taken) where
      done : Ends (refusals (look_up_all_in s t out) tt) Taken
      done = subst (Ends (refusals (look_up_all_in s t out) tt)) e a.ends

      pub row_taken : ending_of r ≡ Taken
      row_taken = (((b.ends.1 (λ n. n tt)).1 (clear (rest done))).1 (clear (rest (rest done)))).1 (λ n. clear (rest (rest (rest done))) (λ x. n (x.each i h)))

      pub row_number : get_or out' i 0 ≡ returned r
      row_number = ap (λ (l : List ℕ). get_or l i 0) (a.gives e) ∙ row_word (number_in s t) (length out) i h ∙ sym (number_there r row_taken ∙ ap (λ (x : Phrase). x.end) (b.gives row_taken).0)

    -- a row whose look up is refused refuses all, with the same number
    pub row_refused : (x : Refusal) → ending_of r ≡ Refused x → o ≡ Refused x
    row_refused x e = ends_unique (refusals (look_up_all_in s t out) tt) o (Refused x) a.ends (front.0, λ k. ((front.1 k).0, λ n. (((front.1 k).1 n).0, λ g. later (((front.1 k).1 n).1 g))))
      where
        front : Ends (refusals (look_up_in s (row_at i)) tt) (Refused x)
        front = subst (Ends (refusals (look_up_in s (row_at i)) tt)) e b.ends

        later : Ends (BadArgument when (Valid (sheet_sizes s) (row_at i) → ⊥) else taken) (Refused x) → Ends (BadArgument when (SettingRows (sheet_sizes s) (length out) t → ⊥) else taken) (Refused x)
        later f = (λ n. go (valid_decided (sheet_sizes s) (row_at i)), λ m. f.1 (λ n. m (λ z. n (z.each i h))))
          where
            go : Dec (Valid (sheet_sizes s) (row_at i)) → Refused x ≡ Refused BadArgument
            go (yes v) = not_taken (f.1 (λ n. n v))
            go (no v) = f.0 v

  -- taken exactly if the look up of every row is, where there is a row and no byte is missing or left over
  module _ (l : length t ≡ length out * length (sheet_sizes s)) (some : 1 ≤ length out) (r : ℕ → Result Looked Refusal) (b : (i : ℕ) → i < length out → Meets (look_up_in s (row_at i)) tt tt (r i)) where
    pub all_taken : (o ≡ Taken) ↔ ((i : ℕ) → i < length out → ending_of (r i) ≡ Taken)
    all_taken = ((λ e i h. row_taken i h (b i h) e), back)
      where
        back : ((i : ℕ) → i < length out → ending_of (r i) ≡ Taken) → o ≡ Taken
        back f =
            let d : (i : ℕ) → i < length out → Ends (refusals (look_up_in s (row_at i)) tt) Taken = λ i h. subst (Ends (refusals (look_up_in s (row_at i)) tt)) (f i h) (b i h).ends in
            let d₀ = d 0 (omega (arith, some)) in
            (((a.ends.1 (λ n. n tt)).1 (clear (rest d₀))).1 (clear (rest (rest d₀)))).1
            (λ n. n (record { long = l; each = λ i h. dec→stable (valid_decided (sheet_sizes s) (row_at i)) (clear (rest (rest (rest (d i h))))) }))

-- and so for C: where 0 is returned, each word is what the look up of its row returns
pub row_returned : {s t out out' : List ℕ} {r : ℕ} → Hears (Meets (look_up_all_in s t out) tt tt) tell_filled (heard r out' []) → r ≡ 0 → (i : ℕ) → i < length out → {n : ℕ}
    → Hears (Meets (look_up_in s (row_of (length (sheet_sizes s)) t i)) tt tt) (tell_returned []) (heard n [] []) → get_or out' i 0 ≡ n
row_returned a e i h b =
    let d : a.answer.0 ≡ Taken = one_number (sym a.number ∙ e) in
    ap (λ (l : List ℕ). get_or l i 0) a.out ∙ row_number a.keeps i h b.keeps d ∙ sym b.number
